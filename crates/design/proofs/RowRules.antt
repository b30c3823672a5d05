-- A label flows to another where its row has the other's bit.
use Prim.Native.Nat.{ℕ, ◌/◌, ◌%◌, ◌^◌, ◌<◌}
use mathlib.Core.Path.{◌≡◌, ◌∙◌}
use mathlib.Core.Bool.{Bool}
use mathlib.Core.List.{List}
use native.Mathlib.Omega.{arith}
use lib.Dec.{eqb}
use Rattle.model.specs.Image.{design_of}
use Rattle.model.specs.Lattice.{flows_to}
use Rattle.design.specs.declared.Design.{Design}
use Rattle.design.specs.Records.{row_in}
use Rattle.design.specs.Describes.{Describes}
use Rattle.design.proofs.Laws.{labels_most, row_in_lem}

module _ {image : List ℕ} {x : Design} (d : Describes image x) where
  pub label_bit : {j : ℕ} → j < x.labels → j < 64
  label_bit below = let most = labels_most d in omega arith

  pub row_flows : (j : ℕ) {i row : ℕ} {b : Bool} → i < x.labels → row ≡ row_in image i → b ≡ eqb (row / 2 ^ j % 2) 1 → b ≡ flows_to (design_of image).rows i j
  unfolding flows_to
  row_flows j inside e h = h ∙ rw (e, row_in_lem d inside)
