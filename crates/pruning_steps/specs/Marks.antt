-- Tables of marks, which say what stays, and of new numbers.
use Rattle.std.specs.Prelude.{ℕ, ◌≤◌, ◌<◌, ◌≡◌, Bool, List, eqb, length, get_or}
use Rattle.model.specs.Values.{one_or_zero}
use Rattle.pruning_model.specs.Pruned.{closed_up}

-- the mark of a number that stays, and of one that goes
unfoldable pub mark_of : (ℕ → Bool) → ℕ → ℕ
mark_of stays k = one_or_zero (stays k)

-- a table has 1 for each of n numbers that stays, and 0 for each that goes
pub record Marked (stays : ℕ → Bool) (n : ℕ) (marks : List ℕ) : Type 0 where
  pub long : n ≤ length marks
  pub entry : (k : ℕ) → k < n → get_or marks k 0 ≡ one_or_zero (stays k)

-- what a table of marks says of a number
abbrev pub is_marked : List ℕ → ℕ → Bool
is_marked marks k = eqb (get_or marks k 0) 1

-- a table has the new number of each of n numbers
pub record Numbered (stays : ℕ → Bool) (n : ℕ) (numbers : List ℕ) : Type 0 where
  pub long : n ≤ length numbers
  pub entry : (k : ℕ) → k < n → get_or numbers k 0 ≡ closed_up stays k
