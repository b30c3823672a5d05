-- 01, 'The image': bytes to sections, sections to records. No rule and no step knows where a byte stands; what is written anew has `Encoding` of crate `encoding`.
-- An image is the list of its bytes.
use Rattle.std.specs.Prelude.{ℕ, zero, suc, ◌+◌, ◌*◌, ◌/◌, ◌%◌, ◌<◌, Bool, ◌&&◌, List, [], ◌∷◌, leb, eqb, length, get_or, drop}
use Rattle.model.specs.Limits.{directory_length, label_length, register_length, state_length, node_length, labels_min, labels_max, registers_max, states_min, states_max, commands_max, expressions_max}

-- past the end every byte reads as 0
abbrev pub byte_at : List ℕ → ℕ → ℕ
byte_at bytes i = get_or bytes i 0

-- An image is a list of bytes. The definitions read any list of numbers; a slice of the code holds bytes.
abbrev pub AreBytes : List ℕ → Type 0
AreBytes bytes = (i : ℕ) → byte_at bytes i < 256

-- "fields little-endian"
abbrev pub word16_at : List ℕ → ℕ → ℕ
word16_at bytes i = byte_at bytes i + 256 * byte_at bytes (i + 1)

abbrev pub word32_at : List ℕ → ℕ → ℕ
word32_at bytes i = word16_at bytes i + 65536 * word16_at bytes (i + 2)

-- "labels, registers, states, commands, expressions"
pub data Section : Type 0 where
  Labels Registers States Commands Expressions : Section

-- which pair of the directory is the section's
abbrev pub ordinal : Section → ℕ
ordinal Labels = 0
ordinal Registers = 1
ordinal States = 2
ordinal Commands = 3
ordinal Expressions = 4

abbrev pub record_length : Section → ℕ
record_length Labels = label_length
record_length Registers = register_length
record_length States = state_length
record_length Commands = node_length
record_length Expressions = node_length

abbrev pub fewest : Section → ℕ
fewest Labels = labels_min
fewest Registers = 0
fewest States = states_min
fewest Commands = 0
fewest Expressions = 0

abbrev pub most : Section → ℕ
most Labels = labels_max
most Registers = registers_max
most States = states_max
most Commands = commands_max
most Expressions = expressions_max

-- "five pairs of offset and length, 16 bits each"
abbrev pub offset : List ℕ → Section → ℕ
offset image s = word16_at image (4 * ordinal s)

abbrev pub size : List ℕ → Section → ℕ
size image s = word16_at image (4 * ordinal s + 2)

abbrev pub count : List ℕ → Section → ℕ
count image s = size image s / record_length s

abbrev pub end : List ℕ → Section → ℕ
end image s = offset image s + size image s

-- a whole number of records, and a count within the table's limits
unfoldable pub section_kept : List ℕ → Section → Bool
section_kept image s = eqb (size image s % record_length s) 0 && leb (fewest s) (count image s) && leb (count image s) (most s)

-- "Bytes 0 to 19 are five pairs .. The first offset is 20; each later one is the sum of offset and length before it; the last section ends at the image's end."
unfoldable pub offsets_kept : List ℕ → Bool
offsets_kept image =
    leb directory_length (length image)
    && eqb (offset image Labels) directory_length
    && eqb (offset image Registers) (end image Labels)
    && eqb (offset image States) (end image Registers)
    && eqb (offset image Commands) (end image States)
    && eqb (offset image Expressions) (end image Commands)
    && eqb (length image) (end image Expressions)

-- refusal 1: "directory, count or section length"
unfoldable pub directory_kept : List ℕ → Bool
directory_kept image =
    offsets_kept image
    && section_kept image Labels
    && section_kept image Registers
    && section_kept image States
    && section_kept image Commands
    && section_kept image Expressions

-- "label, kind (0 inner, 1 port), 32-bit reset value"; 02, E2: "7 bytes, the new last byte being a width"
pub record Register : Type 0 where
  pub label : ℕ
  pub kind : ℕ
  pub reset : ℕ
  pub width : ℕ

-- "parent, label, 16-bit command number"; 02, E8: "after the old four a count of 0 to 2, then two pairs of lower and upper label". The label is a byte that may
-- stand for a parameter's label.
pub record State : Type 0 where
  pub parent : ℕ
  pub label : ℕ
  pub command : ℕ
  pub parameters : ℕ
  pub first_lower : ℕ
  pub first_upper : ℕ
  pub second_lower : ℕ
  pub second_upper : ℕ

-- "A command or expression is a node: byte 0 kind, byte 1 a register or state, then 16-bit fields a, b, c."
pub record Node : Type 0 where
  pub kind : ℕ
  pub item : ℕ
  pub a : ℕ
  pub b : ℕ
  pub c : ℕ

-- one record, read from the bytes that begin with it
abbrev pub row_of : List ℕ → ℕ
row_of bytes = word16_at bytes 0

abbrev pub register_of : List ℕ → Register
register_of bytes = record { label = byte_at bytes 0; kind = byte_at bytes 1; reset = word32_at bytes 2; width = byte_at bytes 6 }

abbrev pub state_of : List ℕ → State
state_of bytes =
    record {
      parent = byte_at bytes 0;
      label = byte_at bytes 1;
      command = word16_at bytes 2;
      parameters = byte_at bytes 4;
      first_lower = byte_at bytes 5;
      first_upper = byte_at bytes 6;
      second_lower = byte_at bytes 7;
      second_upper = byte_at bytes 8;
    }

abbrev pub node_of : List ℕ → Node
node_of bytes = record { kind = byte_at bytes 0; item = byte_at bytes 1; a = word16_at bytes 2; b = word16_at bytes 4; c = word16_at bytes 6 }

-- "0 constant, 32 bits in bytes 4 to 7", which are the fields b and c
abbrev pub constant_of : Node → ℕ
constant_of node = node.b + 65536 * node.c

-- records that stand one behind the other
module _ {A : Type 0} (read : List ℕ → A) (width : ℕ) where
  unfoldable pub records_of : ℕ → List ℕ → List A
  records_of zero bytes = []
  records_of (suc n) bytes = read bytes ∷ records_of n (drop width bytes)

-- what an image says, record by record
pub record Design : Type 0 where
  pub rows : List ℕ
  pub registers : List Register
  pub states : List State
  pub commands : List Node
  pub expressions : List Node

module _ {A : Type 0} (read : List ℕ → A) where
  unfoldable pub section_of : List ℕ → Section → List A
  section_of image s = records_of read (record_length s) (count image s) (drop (offset image s) image)

unfoldable pub design_of : List ℕ → Design
design_of image =
    record {
      rows = section_of row_of image Labels;
      registers = section_of register_of image Registers;
      states = section_of state_of image States;
      commands = section_of node_of image Commands;
      expressions = section_of node_of image Expressions;
    }

-- a record by its number
abbrev pub no_register : Register
no_register = record { label = 0; kind = 0; reset = 0; width = 0 }

abbrev pub register_at : Design → ℕ → Register
register_at d r = get_or d.registers r no_register

abbrev pub no_state : State
no_state = record { parent = 0; label = 0; command = 0; parameters = 0; first_lower = 0; first_upper = 0; second_lower = 0; second_upper = 0 }

abbrev pub state_at : Design → ℕ → State
state_at d s = get_or d.states s no_state

abbrev pub no_node : Node
no_node = record { kind = 0; item = 0; a = 0; b = 0; c = 0 }

abbrev pub command_at : Design → ℕ → Node
command_at d n = get_or d.commands n no_node

abbrev pub expression_at : Design → ℕ → Node
expression_at d n = get_or d.expressions n no_node
