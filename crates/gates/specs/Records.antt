-- A record of a section that begins at a place. Written out by its bytes, so that the accessors need no proof; that these are the records of the table is
-- `Laws.antt` of `proofs/`.
use Rattle.std.specs.Prelude.{ℕ, ◌+◌, ◌*◌, List}
use Rattle.model.specs.Image.{byte_at, word16_at}
use Rattle.gates_model.specs.Limits.{directory_length, input_length, flip_flop_length, gate_length}
use Rattle.gates_model.specs.Tables.{FlipFlop, Gate}

-- the inputs begin behind the directory
abbrev pub mark_in : List ℕ → ℕ → ℕ
mark_in table i = byte_at table (directory_length + input_length * i)

abbrev pub flip_flop_in : List ℕ → ℕ → ℕ → FlipFlop
flip_flop_in table at i =
    record { next = word16_at table (at + flip_flop_length * i); value = byte_at table (at + flip_flop_length * i + 2); mark = byte_at table (at + flip_flop_length * i + 3) }

abbrev pub gate_in : List ℕ → ℕ → ℕ → Gate
gate_in table at g = record { first = word16_at table (at + gate_length * g); second = word16_at table (at + gate_length * g + 2) }

-- where a record ends
abbrev pub input_end : ℕ → ℕ
input_end i = directory_length + input_length * i + input_length

abbrev pub flip_flop_end : ℕ → ℕ → ℕ
flip_flop_end at i = at + flip_flop_length * i + flip_flop_length

abbrev pub gate_end : ℕ → ℕ → ℕ
gate_end at g = at + gate_length * g + gate_length
