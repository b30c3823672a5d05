-- How marks spread: from a number that is marked to all that it gives.
use Rattle.std.specs.Prelude.{ℕ, cond, List, [], ◌∷◌, set}
use Rattle.pruning_steps.specs.Marks.{is_marked}

-- a table with every number of a list marked
unfoldable pub mark_all : List ℕ → List ℕ → List ℕ
mark_all marks [] = marks
mark_all marks (k ∷ ks) = mark_all (set marks k 1) ks

-- what n gives, where it is marked
abbrev pub given_by : List ℕ → (ℕ → List ℕ) → ℕ → List ℕ
given_by marks gives n = cond (is_marked marks n) (gives n) []
