-- A table of the registers' labels: a loop fills it from the records, so the design with these labels is the design itself.
use Prim.Native.Nat.{ℕ, ◌+◌, ◌≤◌, ◌<◌}
use mathlib.Core.Path.{◌≡◌, ◌∙◌, ap}
use mathlib.Core.List.{List}
use native.Mathlib.Omega.{arith}
use lib.ListN.{length, set}
use Rattle.model.specs.Image.{Register, design_of}
use Rattle.model.specs.Lattice.{register_label}
use Rattle.model.specs.Labelling.{relabelled}
use Rattle.model.proofs.Laws.Labelling.{relabelled_own}
use Rattle.model.proofs.Exact.Records.{register_iff}
use Rattle.design.specs.declared.Design.{Design}
use Rattle.design.specs.Records.{register_in}
use Rattle.design.specs.Describes.{Describes}
use Rattle.design.specs.Kept.{RegistersKept}
use Rattle.design.specs.Resets.{Filled}
use Rattle.design.specs.Labels.{LabelsKept}
use Rattle.design.proofs.Laws.{registers_count, register_in_lem}
use Rattle.design.proofs.ResetRules.{filled_within}

module _ {image old : List ℕ} {x : Design} (d : Describes image x) where
  -- one register further
  pub labels_more :
      {i v : ℕ} {now : List ℕ}
      → Filled (register_label (design_of image)) old i now
      → x.registers ≤ length old
      → i < x.registers
      → v ≡ (register_in image x.registers_at i).label
      → Filled (register_label (design_of image)) old (i + 1) (set now i v)
  labels_more so e l h = filled_within so e l (h ∙ ap (λ (y : Register). y.label) (register_in_lem d l))

  module _ {table : List ℕ} (filled : Filled (register_label (design_of image)) old x.registers table) where
    -- the registers' own labels are labels of the design
    pub own_labels_kept : RegistersKept (design_of image) → x.registers ≤ length old → LabelsKept (design_of image) table
    own_labels_kept kept enough =
        let count = registers_count d in
        let same = filled.long in
        record {
          enough = omega arith;
          inside = λ r l. rw (filled.done r (omega arith)) ((register_iff (design_of image) r).0 (kept.kept r l)).label;
        }

    -- the design with them is itself
    pub own_labels : relabelled (design_of image) table ≡ design_of image
    own_labels = let count = registers_count d in relabelled_own (design_of image) table (λ r l. filled.done r (omega arith))
