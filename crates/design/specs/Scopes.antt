-- A table of the parameters in scope of each state: three bytes for a state, how many they are and the numbers of the first two.
use Rattle.std.specs.Prelude.{ℕ, zero, suc, ◌+◌, ◌*◌, ◌-◌, ◌<◌, ◌≤◌, ◌≡◌, ◌⊎◌, Bool, not, cond, List, [], eqb, length, get_or, set}
use Rattle.model.specs.Limits.{parameters_max, parameter_label}
use Rattle.model.specs.Image.{Design as Table, state_at}
use Rattle.model.specs.States.{parent}
use Rattle.model.specs.Parameters.{scope_of}

-- the bytes that a state takes in the table
abbrev pub scope_length : ℕ
scope_length = 3

-- a state that has a parameter of its own
abbrev pub has_own : Table → ℕ → Bool
has_own d s = not (eqb (state_at d s).parameters 0)

-- what state s has from the states above it
unfoldable pub inherited_scope : Table → ℕ → List ℕ
inherited_scope d s = cond (eqb s 0) [] (scope_of d (parent d s))

-- a table with the entry of state s
unfoldable pub with_scope : Table → ℕ → List ℕ → List ℕ
with_scope d s table =
    set
    (set (set table (scope_length * s) (length (scope_of d s))) (scope_length * s + 1) (get_or (scope_of d s) 0 0))
    (scope_length * s + 2)
    (get_or (scope_of d s) 1 0)

-- and with those of the states below n, one after the other
unfoldable pub with_scopes : Table → ℕ → List ℕ → List ℕ
with_scopes d zero table = table
with_scopes d (suc n) table = with_scope d n (with_scopes d n table)

-- the entries of the states below n
pub record ScopesBelow (d : Table) (table : List ℕ) (n : ℕ) : Type 0 where
  pub long : scope_length * length d.states ≤ length table
  pub count : (s : ℕ) → s < n → get_or table (scope_length * s) 0 ≡ length (scope_of d s)
  pub first : (s : ℕ) → s < n → get_or table (scope_length * s + 1) 0 ≡ get_or (scope_of d s) 0 0
  pub second : (s : ℕ) → s < n → get_or table (scope_length * s + 2) 0 ≡ get_or (scope_of d s) 1 0

-- those of all states
pub record Scopes (d : Table) (table : List ℕ) : Type 0 where
  pub long : scope_length * length d.states ≤ length table
  pub count : (s : ℕ) → s < length d.states → get_or table (scope_length * s) 0 ≡ length (scope_of d s)
  pub first : (s : ℕ) → s < length d.states → get_or table (scope_length * s + 1) 0 ≡ get_or (scope_of d s) 0 0
  pub second : (s : ℕ) → s < length d.states → get_or table (scope_length * s + 2) 0 ≡ get_or (scope_of d s) 1 0

-- no state has a parameter
pub record NoParameters (d : Table) : Type 0 where
  pub none : (s : ℕ) → s < length d.states → (state_at d s).parameters ≡ 0

-- a label byte that stands for a label, or for a parameter in scope of state s
pub record LabelByte (d : Table) (s byte : ℕ) : Type 0 where
  pub is : (byte < length d.rows) ⊎ ((parameter_label ≤ byte) × (byte - parameter_label < length (scope_of d s)))

-- no state has more in scope than the table holds
pub record ScopesShort (d : Table) : Type 0 where
  pub short : (s : ℕ) → s < length d.states → length (scope_of d s) ≤ parameters_max
