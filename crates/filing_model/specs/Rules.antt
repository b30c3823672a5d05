-- 02, E12: the table of refusals of filing, as propositions in the order in which they are judged.
use Rattle.std.specs.Prelude.{ℕ, ◌≤◌, List, [], ◌∷◌, ◌++◌, length}
use Rattle.model.specs.declared.Refusal.TheVariants.{OutputArea}
use Rattle.model.specs.Refusals.{Pass, ◌asks◌, at, image_table}
use Rattle.filing_model.specs.Filed.{filed_image}

-- the image checks, then 24
abbrev pub file_table : List ℕ → List ℕ → List Pass
file_table image out = image_table image ++ ((OutputArea asks at 0 (length (filed_image image) ≤ length out) ∷ []) ∷ [])
