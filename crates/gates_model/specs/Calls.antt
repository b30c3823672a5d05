-- The three calls. For each, one function from everything lent to the answer and every byte of the area afterwards, refusals included. The contracts of the
-- calls are equations with these.
use Rattle.std.specs.Prelude.{ℕ, ◌*◌, Bool, ◌&&◌, true, List, eqb, length}
use Rattle.model.specs.declared.Refusal.TheVariants.{Area, GateWire}
use Rattle.model.specs.Answers.{Answer}
use Rattle.model.specs.Indices.{lowest_failing}
use Rattle.model.specs.Image.{byte_at}
use Rattle.model.specs.Verdict.{◌before◌, refused_at, at_zero_unless}
use Rattle.model.specs.Calls.{Left, leaves}
use Rattle.gates_model.specs.Limits.{signal_length}
use Rattle.gates_model.specs.Tables.{Table, table_of, first_gate}
use Rattle.gates_model.specs.Verdict.{is_bit, by_kind, table_answer}
use Rattle.gates_model.specs.Cycle.{signal_in, cycled, started}

-- a value, or a value and a mark, in range
abbrev pub input_lent : List ℕ → ℕ → Bool
input_lent inputs i = is_bit (byte_at inputs i)

abbrev pub flip_flop_lent : List ℕ → ℕ → Bool
flip_flop_lent area i = is_bit (signal_in area i).value && is_bit (signal_in area i).mark

module _ (t : Table) where
  -- "one value byte per input, and an area of a value and a mark byte per flip-flop"
  abbrev pub inputs_length_kept : List ℕ → Bool
  inputs_length_kept inputs = eqb (length inputs) (length t.inputs)

  abbrev pub area_length_kept : List ℕ → Bool
  area_length_kept area = eqb (length area) (signal_length * length t.flipflops)

  -- "a wrong length is 14"; decided: at place 0
  unfoldable pub area_answer : List ℕ → Answer
  area_answer area = refused_at Area (at_zero_unless (area_length_kept area))

  unfoldable pub lengths_answer : List ℕ → List ℕ → Answer
  lengths_answer inputs area = refused_at Area (at_zero_unless (inputs_length_kept inputs && area_length_kept area))

  -- 26 "at the lowest wire whose .. lent bytes hold it, a .. value or mark out of range"; no byte is lent of a gate
  unfoldable pub lent_kept : List ℕ → List ℕ → ℕ → Bool
  lent_kept inputs area w = by_kind t (input_lent inputs) (flip_flop_lent area) (λ g. true) w

  unfoldable pub lent_answer : List ℕ → List ℕ → Answer
  lent_answer inputs area = refused_at GateWire (lowest_failing (lent_kept inputs area) (first_gate t))

unfoldable pub gates_check : List ℕ → Answer
gates_check table = table_answer table

module _ (table area : List ℕ) where
  -- decided: reset overwrites the area and judges its length only, as 01 has it of calls that overwrite areas
  unfoldable pub gates_reset_answer : Answer
  gates_reset_answer = table_answer table before area_answer (table_of table) area

  unfoldable pub gates_reset : Left (List ℕ)
  gates_reset = leaves gates_reset_answer area (started (table_of table))

module _ (table inputs area : List ℕ) where
  -- "a wrong length is 14, after 26 for the table and before 26 for these"
  unfoldable pub gates_cycle_answer : Answer
  gates_cycle_answer =
      table_answer table
      before lengths_answer (table_of table) inputs area
      before lent_answer (table_of table) inputs area

  unfoldable pub gates_cycle : Left (List ℕ)
  gates_cycle = leaves gates_cycle_answer area (cycled (table_of table) inputs area)
