-- The flow faults under the registers' own labels are the design's: with these labels it is itself.
use Prim.Native.Nat.{ℕ}
use mathlib.Core.Path.{◌≡◌, ◌∙◌, ap}
use mathlib.Core.List.{List}
use Rattle.model.specs.Answers.{Answer}
use Rattle.model.specs.Image.{design_of}
use Rattle.model.specs.Lattice.{register_label}
use Rattle.model.specs.Labelling.{relabelled}
use Rattle.model.specs.Flow.{flow_answer}
use Rattle.design.specs.declared.Design.{Design}
use Rattle.design.specs.Kept.{RecordsKept}
use Rattle.design.specs.Resets.{Filled}
use Rattle.design.proofs.LabelRules.{own_labels}

pub own_flow : {image old table : List ℕ} {x : Design} {a : Answer} → RecordsKept image x → Filled (register_label (design_of image)) old x.registers table → a ≡ flow_answer (relabelled (design_of image) table) → a ≡ flow_answer (design_of image)
own_flow known filled e = e ∙ ap flow_answer (own_labels known.describes filled)
