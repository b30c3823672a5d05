-- What `Boundaries/Images` shows of new numbers alone, a walk through a dropped state that reads as one through a state that stays, is refused by what pruning promises of walks: that
-- every state in them is reached. It stands here since it cites a theorem, and the files of cases do without, so that wrong definitions can be tried on them alone.
use Prim.Native.Nat.{ℕ}
use mathlib.Core.Path.{◌≡◌, refl}
use mathlib.Core.Bool.{false}
use mathlib.Core.List.Memᴰ
use mathlib.Core.List.{[], ◌∷◌}
use Rattle.model.specs.Image.{design_of}
use Rattle.model.proofs.Laws.Booleans.{true_or_false}
use Rattle.model.proofs.Opened.{checks}
use Rattle.renumbering.specs.Runs.{AllStay}
use Rattle.pruning_model.specs.Reached.{Reached, reached}
use Rattle.pruning_model.proofs.Images.{image_reached}
use Rattle.pruning_model.proofs.Opened.{pruning}
use Rattle.pruning_model.proofs.Boundaries.Images.{mixed, walked}

unreached : (s : ℕ) → reached (design_of mixed) s ≡ false → Reached (design_of mixed) s → ⊥
unreached s e h = true_or_false (reached (design_of mixed) s) ((image_reached mixed (unfold checks in refl) s).1 h) e

shows_never_reached : (Reached (design_of mixed) 2 → ⊥) × (Reached (design_of mixed) 5 → ⊥)
shows_never_reached = (unreached 2 (unfold pruning in refl), unreached 5 (unfold pruning in refl))

-- no list of cycles in which every state that ran stays has that walk
shows_walk_refused : AllStay (Reached (design_of mixed)) (walked (0 ∷ 2 ∷ []) ∷ []) → ⊥
shows_walk_refused stay = shows_never_reached.0 (stay (walked (0 ∷ 2 ∷ [])) (Memᴰ.head refl) 2 (Memᴰ.tail (Memᴰ.head refl)))
