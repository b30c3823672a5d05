-- The limits of a gate table, each named once. The code's associated constants of `Gates` are tied to these names by a proved function.
use Rattle.std.specs.Prelude.{ℕ, ◌+◌, ◌*◌}

-- "A directory like the image's, first offset 12"
abbrev pub directory_length : ℕ
directory_length = 12

-- "inputs, 1 byte each"
abbrev pub input_length : ℕ
input_length = 1

-- "flip-flops, 4 bytes"
abbrev pub flip_flop_length : ℕ
flip_flop_length = 4

-- "gates, 4 bytes"
abbrev pub gate_length : ℕ
gate_length = 4

-- "At most 256, 256 and 4,096."
abbrev pub inputs_max : ℕ
inputs_max = 256

abbrev pub flip_flops_max : ℕ
flip_flops_max = 256

abbrev pub gates_max : ℕ
gates_max = 4096

-- the wires of the largest table
abbrev pub wires_max : ℕ
wires_max = inputs_max + flip_flops_max + gates_max

-- the bytes that a flip-flop takes in its area: "a value and a mark byte per flip-flop"
abbrev pub signal_length : ℕ
signal_length = 2

-- the length of the largest table: each section has as many records as it may have
abbrev pub largest_table : ℕ
largest_table = directory_length + input_length * inputs_max + flip_flop_length * flip_flops_max + gate_length * gates_max
