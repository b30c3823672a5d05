-- What reset writes: a table of default targets, a table filled up to an entry, and the two areas as one value.
use Rattle.std.specs.Prelude.{ℕ, ◌<◌, ◌≤◌, ◌≡◌, List, length, get_or}
use Rattle.model.specs.Indices.{filled_to}
use Rattle.model.specs.Image.{Design as Table}
use Rattle.model.specs.States.{default_target}
use Rattle.model.specs.Calls.{Lent}

-- a table in which the entry of each state is its default target; the bytes behind them stay
unfoldable pub with_defaults : Table → List ℕ → List ℕ
with_defaults d old = filled_to (default_target d) (length d.states) old

-- a table that holds the default target of each state
pub record Defaults (d : Table) (table : List ℕ) : Type 0 where
  pub long : length d.states ≤ length table
  pub entry : (s : ℕ) → s < length d.states → get_or table s 0 ≡ default_target d s

-- a table in which the entries before i are those of f; the bytes from i on stay
pub record Filled (f : ℕ → ℕ) (old : List ℕ) (i : ℕ) (now : List ℕ) : Type 0 where
  pub long : length now ≡ length old
  pub done : (k : ℕ) → k < i → get_or now k 0 ≡ f k
  pub rest : (k : ℕ) → i ≤ k → get_or now k 0 ≡ get_or old k 0

-- the two areas as they are lent
abbrev pub lends : List ℕ → List ℕ → Lent
lends registers targets = record { registers = registers; targets = targets }
