-- The calls of `Rattle.gates_model.specs.Calls` from the point where the table is accepted on.
use Rattle.std.specs.Prelude.{ℕ, ◌*◌, ◌≡◌, List, length}
use Rattle.model.specs.Verdict.{◌before◌}
use Rattle.gates_model.specs.Limits.{signal_length}
use Rattle.gates_model.specs.Tables.{Table}
use Rattle.gates_model.specs.Cycle.{cycled, started}
use Rattle.gates_model.specs.Calls.{area_answer, lengths_answer, lent_answer}
use Rattle.gates.specs.declared.Gates.{Gates}
use Rattle.model.specs.Calls.{Left, leaves}

unfoldable pub reset_on : Table → List ℕ → Left (List ℕ)
reset_on t area = leaves (area_answer t area) area (started t)

unfoldable pub cycle_on : Table → List ℕ → List ℕ → Left (List ℕ)
cycle_on t inputs area = leaves (lengths_answer t inputs area before lent_answer t inputs area) area (cycled t inputs area)

-- the lengths are those that the counts of a `Gates` ask for
pub record RightLengths (x : Gates) (inputs area : List ℕ) : Type 0 where
  pub inputs_long : length inputs ≡ x.inputs
  pub area_long : length area ≡ signal_length * x.flipflops
