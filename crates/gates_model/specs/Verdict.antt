-- When a table is accepted: 25 for the directory, then 26 "at the lowest wire whose record .. holds .. a wire, value or mark out of range".
use Rattle.std.specs.Prelude.{ℕ, ◌+◌, ◌-◌, Bool, ◌&&◌, cond, List, leb, ltb}
use Rattle.model.specs.declared.Refusal.TheVariants.{GateDirectory, GateWire}
use Rattle.model.specs.Answers.{Answer}
use Rattle.model.specs.Indices.{lowest_failing}
use Rattle.model.specs.Verdict.{◌before◌, refused_at, at_zero_unless}
use Rattle.gates_model.specs.Tables.{Table, table_of, directory_kept, mark_at, flip_flop_at, gate_at, first_flip_flop, first_gate, wires}

-- a value or a mark is 0 or 1
abbrev pub is_bit : ℕ → Bool
is_bit b = leb b 1

-- one of three, by the kind of a wire: of an input by its number, of a flip-flop by its own, of a gate by its own
module _ (t : Table) {A : Type 0} (input flipflop gate : ℕ → A) where
  abbrev pub by_kind : ℕ → A
  by_kind w = cond (ltb w (first_flip_flop t)) (input w) (cond (ltb w (first_gate t)) (flipflop (w - first_flip_flop t)) (gate (w - first_gate t)))

module _ (t : Table) where
  unfoldable pub input_kept : ℕ → Bool
  input_kept i = is_bit (mark_at t i)

  -- decided: a flip-flop's next wire is any wire of the table
  unfoldable pub flip_flop_kept : ℕ → Bool
  flip_flop_kept i = ltb (flip_flop_at t i).next (wires t) && is_bit (flip_flop_at t i).value && is_bit (flip_flop_at t i).mark

  -- "a gate reads lower wires only"
  unfoldable pub gate_kept : ℕ → Bool
  gate_kept g = ltb (gate_at t g).first (first_gate t + g) && ltb (gate_at t g).second (first_gate t + g)

  unfoldable pub wire_kept : ℕ → Bool
  wire_kept w = by_kind t input_kept flip_flop_kept gate_kept w

-- "It refuses with 25, place 0, a directory, count or section length and with 26, after it and at the lowest wire whose record .. hold[s] it, a wire, value
-- or mark out of range."
unfoldable pub table_answer : List ℕ → Answer
table_answer table =
    refused_at GateDirectory (at_zero_unless (directory_kept table))
    before refused_at GateWire (lowest_failing (wire_kept (table_of table)) (wires (table_of table)))
