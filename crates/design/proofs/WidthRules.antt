-- The width of a register, read from a record that was judged: it is the design's, and no more than the greatest width.
use Prim.Native.Nat.{ℕ, ◌≤◌, ◌<◌}
use mathlib.Core.Path.{◌≡◌, ◌∙◌, ap}
use mathlib.Core.List.{List}
use native.Mathlib.Omega.{arith}
use Rattle.model.specs.Limits.{width_max}
use Rattle.model.specs.Image.{Register, design_of, register_at}
use Rattle.model.proofs.Exact.Records.{register_iff}
use Rattle.design.specs.declared.Design.{Design}
use Rattle.design.specs.Records.{register_in}
use Rattle.design.specs.Kept.{RecordsKept}
use Rattle.design.proofs.Laws.{registers_count, register_in_lem}

module _ {image : List ℕ} {x : Design} {r w : ℕ} (known : RecordsKept image x) (l : r < x.registers) (h : w ≡ (register_in image x.registers_at r).width) where
  pub width_is : w ≡ (register_at (design_of image) r).width
  width_is = h ∙ ap (λ (y : Register). y.width) (register_in_lem known.describes l)

  pub width_narrow : w ≤ width_max
  width_narrow =
      let count = registers_count known.describes in
      let most = ((register_iff (design_of image) r).0 (known.registers.kept r (omega arith))).width_most in
      let is = width_is in
      omega arith
