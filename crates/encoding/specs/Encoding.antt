-- 01, 'The image': a directory of "five pairs of offset and length, 16 bits each", and behind it the sections, "labels, registers, states, commands, expressions", record by
-- record. 02, E11 and E12, write images.
use Rattle.std.specs.Prelude.{ℕ, ◌+◌, ◌*◌, ◌/◌, ◌%◌, List, [], ◌∷◌, ◌++◌, length}
use Rattle.model.specs.Limits.{directory_length, label_length, register_length, state_length, node_length}
use Rattle.model.specs.Image.{Register, State, Node, Design}

-- "fields little-endian"
unfoldable pub word16_bytes : ℕ → List ℕ
word16_bytes n = n % 256 ∷ n / 256 % 256 ∷ []

unfoldable pub word32_bytes : ℕ → List ℕ
word32_bytes n = word16_bytes n ++ word16_bytes (n / 65536)

-- the bytes of each record
abbrev pub row_bytes : ℕ → List ℕ
row_bytes row = word16_bytes row

unfoldable pub register_bytes : Register → List ℕ
register_bytes x = x.label ∷ x.kind ∷ word32_bytes x.reset ++ (x.width ∷ [])

unfoldable pub state_bytes : State → List ℕ
state_bytes x =
    x.parent ∷ x.label ∷ word16_bytes x.command ++ (x.parameters ∷ x.first_lower ∷ x.first_upper ∷ x.second_lower ∷ x.second_upper ∷ [])

unfoldable pub node_bytes : Node → List ℕ
node_bytes x = x.kind ∷ x.item ∷ word16_bytes x.a ++ word16_bytes x.b ++ word16_bytes x.c

-- records one behind the other
module _ {A : Type 0} (bytes : A → List ℕ) where
  unfoldable pub records_bytes : List A → List ℕ
  records_bytes [] = []
  records_bytes (x ∷ xs) = bytes x ++ records_bytes xs

-- a pair of the directory
abbrev pub pair_bytes : ℕ → ℕ → List ℕ
pair_bytes offset size = word16_bytes offset ++ word16_bytes size

-- the lengths of the sections, and where each begins: "The first offset is 20; each later one is the sum of offset and length before it"
module _ (d : Design) where
  abbrev pub labels_size : ℕ
  labels_size = label_length * length d.rows

  abbrev pub registers_size : ℕ
  registers_size = register_length * length d.registers

  abbrev pub states_size : ℕ
  states_size = state_length * length d.states

  abbrev pub commands_size : ℕ
  commands_size = node_length * length d.commands

  abbrev pub expressions_size : ℕ
  expressions_size = node_length * length d.expressions

  abbrev pub registers_at : ℕ
  registers_at = directory_length + labels_size

  abbrev pub states_at : ℕ
  states_at = registers_at + registers_size

  abbrev pub commands_at : ℕ
  commands_at = states_at + states_size

  abbrev pub expressions_at : ℕ
  expressions_at = commands_at + commands_size

  -- the length of the whole: "the last section ends at the image's end"
  abbrev pub image_length : ℕ
  image_length = expressions_at + expressions_size

  unfoldable pub directory_bytes : List ℕ
  directory_bytes =
      pair_bytes directory_length labels_size
      ++ pair_bytes registers_at registers_size
      ++ pair_bytes states_at states_size
      ++ pair_bytes commands_at commands_size
      ++ pair_bytes expressions_at expressions_size

  -- what stands in front of the registers, and of each section behind them
  abbrev pub registers_front : List ℕ
  registers_front = directory_bytes ++ records_bytes row_bytes d.rows

  abbrev pub states_front : List ℕ
  states_front = registers_front ++ records_bytes register_bytes d.registers

  abbrev pub commands_front : List ℕ
  commands_front = states_front ++ records_bytes state_bytes d.states

  abbrev pub expressions_front : List ℕ
  expressions_front = commands_front ++ records_bytes node_bytes d.commands

  unfoldable pub image_of : List ℕ
  image_of =
      directory_bytes
      ++ records_bytes row_bytes d.rows
      ++ records_bytes register_bytes d.registers
      ++ records_bytes state_bytes d.states
      ++ records_bytes node_bytes d.commands
      ++ records_bytes node_bytes d.expressions
