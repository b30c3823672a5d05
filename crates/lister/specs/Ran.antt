-- How far the program got: it stops at the first line that cannot be written.
use Rattle.std.specs.Prelude.{ℕ, ◌+◌, ◌≤◌, ◌≡◌, Bool, true}

-- at most so many cycles have run, and all of them where every line was written; `Behind` says what holds behind a number of cycles; the header and the
-- line of each were handed over
pub record Ran (Behind : ℕ → Type 0) (count handed : ℕ) (written : Bool) : Type 0 where
  pub cycles : ℕ
  pub most : cycles ≤ count
  pub all : written ≡ true → cycles ≡ count
  pub at : Behind cycles
  pub counted : handed ≡ cycles + 1
