-- Tests over the indices below a count, the lowest index that passes one, a list by its indices, and recursion from an index to lower ones.
-- The rules of 01 speak of "the lowest offending label, register, state or node", and parts have lower numbers than their owner.
use Rattle.std.specs.Prelude.{ℕ, zero, suc, min, Bool, true, false, ◌&&◌, ◌||◌, not, cond, List, [], ◌∷◌, ◌++◌, ltb, eqb, length, get_or, Option, Some, None}

-- every index below n passes
unfoldable pub all_below : (ℕ → Bool) → ℕ → Bool
all_below test zero = true
all_below test (suc n) = all_below test n && test n

-- some index below n passes
unfoldable pub some_below : (ℕ → Bool) → ℕ → Bool
some_below test zero = false
some_below test (suc n) = some_below test n || test n

-- what was found earlier, else n where it passes
abbrev pub or_at : Option ℕ → Bool → ℕ → Option ℕ
or_at (Some i) passes n = Some i
or_at None true n = Some n
or_at None false n = None

-- the lowest index below n that passes
unfoldable pub lowest : (ℕ → Bool) → ℕ → Option ℕ
lowest test zero = None
lowest test (suc n) = or_at (lowest test n) (test n) n

-- the lowest index below n at which a rule fails
unfoldable pub lowest_failing : (ℕ → Bool) → ℕ → Option ℕ
lowest_failing rule n = lowest (λ i. not (rule i)) n

-- how many indices a pass has behind it, of so many, where it found this
abbrev pub passed : Option ℕ → ℕ → ℕ
passed (Some n) count = n
passed None count = count

-- the lower of two finds
abbrev pub lower : Option ℕ → Option ℕ → Option ℕ
lower None other = other
lower (Some i) None = Some i
lower (Some i) (Some j) = Some (min i j)

-- the lowest number of a list
unfoldable pub lowest_of : List ℕ → Option ℕ
lowest_of [] = None
lowest_of (x ∷ xs) = lower (Some x) (lowest_of xs)

-- how many entries of a list are n
unfoldable pub occurrences : ℕ → List ℕ → ℕ
occurrences n [] = 0
occurrences n (x ∷ xs) = elim (eqb x n) [ true ↦ suc (occurrences n xs) | false ↦ occurrences n xs ]

module _ {A : Type 0} where
  -- the list whose entries are f i, f (i + 1), .., n of them
  unfoldable pub tabulate_from : (ℕ → A) → ℕ → ℕ → List A
  tabulate_from f i zero = []
  tabulate_from f i (suc n) = f i ∷ tabulate_from f (suc i) n

  -- the list of n entries whose entry i is f i
  unfoldable pub tabulate : (ℕ → A) → ℕ → List A
  tabulate f n = tabulate_from f 0 n

  -- the lists f 0, f 1, .., f (n - 1), joined
  unfoldable pub join_below : (ℕ → List A) → ℕ → List A
  join_below f zero = []
  join_below f (suc n) = join_below f n ++ f n

  -- the lists of f for each entry of a list, joined
  unfoldable pub join_each : (ℕ → List A) → List ℕ → List A
  join_each f [] = []
  join_each f (x ∷ xs) = f x ++ join_each f xs

-- a table whose entries before n are those of f; those from n on stay
unfoldable pub filled_to : (ℕ → ℕ) → ℕ → List ℕ → List ℕ
filled_to f n old = tabulate (λ k. cond (ltb k n) (f k) (get_or old k 0)) (length old)

-- Recursion over numbers: `step n below` says the value at n from the values below n; at n or above, `below` gives `none`.
module _ {A : Type 0} (none : A) (step : ℕ → (ℕ → A) → A) where
  unfoldable pub up_to : ℕ → ℕ → A
  up_to zero n = none
  up_to (suc f) n = step n (λ m. elim (ltb m n) [ true ↦ up_to f m | false ↦ none ])

  unfoldable pub recursively : ℕ → A
  unfolding up_to
  recursively n = up_to (suc n) n
