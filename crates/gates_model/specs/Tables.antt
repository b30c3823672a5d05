-- The table in bytes: "A directory like the image's, first offset 12, has three pairs: inputs .. flip-flops .. gates". Nothing else in these definitions
-- knows where a byte of a table stands. A table is the list of its bytes.
use Rattle.std.specs.Prelude.{ℕ, ◌+◌, ◌*◌, ◌/◌, ◌%◌, Bool, ◌&&◌, List, leb, eqb, length, get_or, drop}
use Rattle.model.specs.Image.{byte_at, word16_at, records_of}
use Rattle.gates_model.specs.Limits.{directory_length, input_length, flip_flop_length, gate_length, inputs_max, flip_flops_max, gates_max}

-- "inputs .. flip-flops .. gates"
pub data Section : Type 0 where
  Inputs FlipFlops Gates : Section

-- which pair of the directory is the section's
abbrev pub ordinal : Section → ℕ
ordinal Inputs = 0
ordinal FlipFlops = 1
ordinal Gates = 2

abbrev pub record_length : Section → ℕ
record_length Inputs = input_length
record_length FlipFlops = flip_flop_length
record_length Gates = gate_length

-- "At most 256, 256 and 4,096."; decided: any of them may be none
abbrev pub most : Section → ℕ
most Inputs = inputs_max
most FlipFlops = flip_flops_max
most Gates = gates_max

-- pairs of offset and length, 16 bits each, as in the image's directory
abbrev pub offset : List ℕ → Section → ℕ
offset table s = word16_at table (4 * ordinal s)

abbrev pub size : List ℕ → Section → ℕ
size table s = word16_at table (4 * ordinal s + 2)

abbrev pub count : List ℕ → Section → ℕ
count table s = size table s / record_length s

abbrev pub end : List ℕ → Section → ℕ
end table s = offset table s + size table s

-- a section of so many bytes is a whole number of records, and not too many
abbrev pub size_kept : ℕ → ℕ → ℕ → Bool
size_kept bytes width limit = eqb (bytes % width) 0 && leb (bytes / width) limit

unfoldable pub section_kept : List ℕ → Section → Bool
section_kept table s = size_kept (size table s) (record_length s) (most s)

-- "first offset 12"; as in the image, each later one is the sum of offset and length before it, and the last section ends at the table's end
unfoldable pub offsets_kept : List ℕ → Bool
offsets_kept table =
    leb directory_length (length table)
    && eqb (offset table Inputs) directory_length
    && eqb (offset table FlipFlops) (end table Inputs)
    && eqb (offset table Gates) (end table FlipFlops)
    && eqb (length table) (end table Gates)

-- refusal 25: "a directory, count or section length"
unfoldable pub directory_kept : List ℕ → Bool
directory_kept table = offsets_kept table && section_kept table Inputs && section_kept table FlipFlops && section_kept table Gates

-- "flip-flops, 4 bytes: next wire, start value, start mark"
pub record FlipFlop : Type 0 where
  pub next : ℕ
  pub value : ℕ
  pub mark : ℕ

-- "gates, 4 bytes: two wires"
pub record Gate : Type 0 where
  pub first : ℕ
  pub second : ℕ

-- one record, read from the bytes that begin with it. "inputs, 1 byte each, mark 0 trusted or 1"
abbrev pub mark_of : List ℕ → ℕ
mark_of bytes = byte_at bytes 0

abbrev pub flip_flop_of : List ℕ → FlipFlop
flip_flop_of bytes = record { next = word16_at bytes 0; value = byte_at bytes 2; mark = byte_at bytes 3 }

abbrev pub gate_of : List ℕ → Gate
gate_of bytes = record { first = word16_at bytes 0; second = word16_at bytes 2 }

-- what a table says, record by record: the marks of the inputs, the flip-flops, the gates
pub record Table : Type 0 where
  pub inputs : List ℕ
  pub flipflops : List FlipFlop
  pub gates : List Gate

module _ {A : Type 0} (read : List ℕ → A) where
  unfoldable pub section_of : List ℕ → Section → List A
  section_of table s = records_of read (record_length s) (count table s) (drop (offset table s) table)

unfoldable pub table_of : List ℕ → Table
table_of table =
    record {
      inputs = section_of mark_of table Inputs;
      flipflops = section_of flip_flop_of table FlipFlops;
      gates = section_of gate_of table Gates;
    }

-- a record by its number
abbrev pub mark_at : Table → ℕ → ℕ
mark_at t i = get_or t.inputs i 0

abbrev pub no_flip_flop : FlipFlop
no_flip_flop = record { next = 0; value = 0; mark = 0 }

abbrev pub flip_flop_at : Table → ℕ → FlipFlop
flip_flop_at t i = get_or t.flipflops i no_flip_flop

abbrev pub no_gate : Gate
no_gate = record { first = 0; second = 0 }

abbrev pub gate_at : Table → ℕ → Gate
gate_at t g = get_or t.gates g no_gate

-- "Wires are numbered inputs, flip-flops, gates": the wires before the first flip-flop, before the first gate, and all
abbrev pub first_flip_flop : Table → ℕ
first_flip_flop t = length t.inputs

abbrev pub first_gate : Table → ℕ
first_gate t = length t.inputs + length t.flipflops

abbrev pub wires : Table → ℕ
wires t = length t.inputs + length t.flipflops + length t.gates
