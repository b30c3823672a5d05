-- The tests of a state's two pairs of bounds, by name, and what the pass over the states' parameters tells.
use Rattle.std.specs.Prelude.{ℕ, ◌≡◌, Bool, cond, List, ltb, length, Option, None}
use Rattle.model.specs.Indices.{lowest_failing, passed}
use Rattle.model.specs.Image.{Design as Table, state_at}
use Rattle.model.specs.Parameters.{pair_kept, parameters_kept}
use Rattle.design.specs.Scopes.{with_scope, with_scopes, Scopes}

unfoldable pub first_pair_kept : Table → ℕ → Bool
first_pair_kept d s = pair_kept d (ltb 0 (state_at d s).parameters) (state_at d s).first_lower (state_at d s).first_upper

unfoldable pub second_pair_kept : Table → ℕ → Bool
second_pair_kept d s = pair_kept d (ltb 1 (state_at d s).parameters) (state_at d s).second_lower (state_at d s).second_upper

-- whether state s keeps its rules; its scope is in the table exactly where it does
pub record Entered (d : Table) (s : ℕ) (b : Bool) (before after : List ℕ) : Type 0 where
  pub is : b ≡ parameters_kept d s
  pub entry : after ≡ cond b (with_scope d s before) before

-- the lowest state at which a rule fails, and the scopes of the states below it in the table; where there is none, the table is whole
pub record ParametersPassed (d : Table) (f : Option ℕ) (before after : List ℕ) : Type 0 where
  pub is : f ≡ lowest_failing (parameters_kept d) (length d.states)
  pub entries : after ≡ with_scopes d (passed f (length d.states)) before
  pub scopes : f ≡ None → Scopes d after
