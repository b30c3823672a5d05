-- A record of a section that begins at a place. Written out by its bytes, so that the accessors need no proof; that these are the records of the design
-- is `Laws.antt` of `proofs/`.
use Rattle.std.specs.Prelude.{ℕ, ◌+◌, ◌*◌, List}
use Rattle.model.specs.Limits.{directory_length, label_length, register_length, state_length, node_length}
use Rattle.model.specs.Image.{byte_at, word16_at, word32_at, Register, State, Node}

-- the rows begin behind the directory
abbrev pub row_in : List ℕ → ℕ → ℕ
row_in image i = word16_at image (directory_length + label_length * i)

abbrev pub register_in : List ℕ → ℕ → ℕ → Register
register_in image at r =
    record {
      label = byte_at image (at + register_length * r);
      kind = byte_at image (at + register_length * r + 1);
      reset = word32_at image (at + register_length * r + 2);
      width = byte_at image (at + register_length * r + 6);
    }

abbrev pub state_in : List ℕ → ℕ → ℕ → State
state_in image at s =
    record {
      parent = byte_at image (at + state_length * s);
      label = byte_at image (at + state_length * s + 1);
      command = word16_at image (at + state_length * s + 2);
      parameters = byte_at image (at + state_length * s + 4);
      first_lower = byte_at image (at + state_length * s + 5);
      first_upper = byte_at image (at + state_length * s + 6);
      second_lower = byte_at image (at + state_length * s + 7);
      second_upper = byte_at image (at + state_length * s + 8);
    }

abbrev pub node_in : List ℕ → ℕ → ℕ → Node
node_in image at n =
    record {
      kind = byte_at image (at + node_length * n);
      item = byte_at image (at + node_length * n + 1);
      a = word16_at image (at + node_length * n + 2);
      b = word16_at image (at + node_length * n + 4);
      c = word16_at image (at + node_length * n + 6);
    }

-- the 32 bits of a constant, in the fields b and c
abbrev pub constant_in : List ℕ → ℕ → ℕ → ℕ
constant_in image at n = word32_at image (at + node_length * n + 4)

-- where a record ends
abbrev pub row_end : ℕ → ℕ
row_end i = directory_length + label_length * i + label_length

abbrev pub register_end : ℕ → ℕ → ℕ
register_end at r = at + register_length * r + register_length

abbrev pub state_end : ℕ → ℕ → ℕ
state_end at s = at + state_length * s + state_length

abbrev pub node_end : ℕ → ℕ → ℕ
node_end at n = at + node_length * n + node_length
