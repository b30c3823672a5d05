-- A state is a child where its record says so: the test on the fields that the accessors read is the definition's.
use Prim.Native.Nat.{ℕ, ◌<◌}
use mathlib.Core.Path.{◌≡◌, ◌∙◌, ap}
use mathlib.Core.Bool.{◌&&◌, not}
use mathlib.Core.List.{List}
use lib.Dec.{ltb, eqb}
use Rattle.model.specs.Image.{State, design_of}
use Rattle.model.specs.States.{is_child}
use Rattle.design.specs.declared.Design.{Design}
use Rattle.design.specs.Records.{state_in}
use Rattle.design.specs.Describes.{Describes}
use Rattle.design.proofs.Laws.{state_in_lem, states_count}

pub is_child_rule : {image : List ℕ} {x : Design} {q p : ℕ} (s : ℕ) → Describes image x → q < x.states → p ≡ (state_in image x.states_at q).parent
    → (not (eqb q 0) && ltb q x.states && eqb p s) ≡ is_child (design_of image) s q
unfolding is_child
is_child_rule s d l p = rw (p ∙ ap (λ (y : State). y.parent) (state_in_lem d l), states_count d)
