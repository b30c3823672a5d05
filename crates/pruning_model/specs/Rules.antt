-- 02, E11: the table of refusals of the call, as propositions in the order in which they are judged.
use Rattle.std.specs.Prelude.{ℕ, ◌≤◌, List, [], ◌∷◌, ◌++◌, length}
use Rattle.model.specs.declared.Refusal.TheVariants.{OutputArea}
use Rattle.model.specs.Refusals.{Pass, ◌asks◌, at, image_table}
use Rattle.pruning_model.specs.Pruned.{pruned_image}

-- the image checks, then 24
abbrev pub prune_table : List ℕ → List ℕ → List Pass
prune_table image out = image_table image ++ ((OutputArea asks at 0 (length (pruned_image image) ≤ length out) ∷ []) ∷ [])
