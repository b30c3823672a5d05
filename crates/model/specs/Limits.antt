-- The limits of a design table, each named once. 01: "The limits belong to the design table and are named there once."
-- The code's associated constants of `Design` are tied to these names by proved functions.
use Rattle.std.specs.Prelude.{ℕ, ◌+◌, ◌*◌, ◌^◌}

-- 01, 'The image': the directory is bytes 0 to 19
abbrev pub directory_length : ℕ
directory_length = 20

-- record lengths in bytes
abbrev pub label_length : ℕ
label_length = 2

-- 02, E2: "The register record becomes 7 bytes"; 01 has 6
abbrev pub register_length : ℕ
register_length = 7

-- 02, E8: "The state record becomes 9 bytes"; 01 has 4
abbrev pub state_length : ℕ
state_length = 9

abbrev pub node_length : ℕ
node_length = 8

-- the least and the greatest count of each section's records
abbrev pub labels_min : ℕ
labels_min = 1

abbrev pub labels_max : ℕ
labels_max = 16

abbrev pub registers_max : ℕ
registers_max = 64

abbrev pub states_min : ℕ
states_min = 1

abbrev pub states_max : ℕ
states_max = 64

abbrev pub commands_max : ℕ
commands_max = 1024

abbrev pub expressions_max : ℕ
expressions_max = 2048

-- 01: "Commands and expressions nest to a depth of 64"
abbrev pub depth_max : ℕ
depth_max = 64

-- 01, 'When the box says no': "an expression's place is 1,024 plus its number"
abbrev pub expression_place : ℕ
expression_place = 1024

-- refusal 15: "more than 1,000,000 cycles"
abbrev pub cycles_max : ℕ
cycles_max = 1000000

-- 02, E2: "a width of 1 to 32": the greatest width of a register, in bits
abbrev pub width_max : ℕ
width_max = 32

-- 01: "Values are 32 bits": the number of values
abbrev pub value_count : ℕ
value_count = 2 ^ 32

-- the bytes that a register takes in its area
abbrev pub word_length : ℕ
word_length = 4

-- 02, E8: "a count of 0 to 2": the most parameters of a state, and the most in its scope
abbrev pub parameters_max : ℕ
parameters_max = 2

-- 02, E8: "Register bytes 64 and 65 name them": the byte of the first parameter in scope
abbrev pub parameter_register : ℕ
parameter_register = 64

-- 02, E8: "state label bytes 16 and 17 stand for their labels": the byte of the first parameter in scope
abbrev pub parameter_label : ℕ
parameter_label = 16

-- 02, E8: "After the targets their area gains two bytes per state"
abbrev pub binding_length : ℕ
binding_length = 2

-- the bytes that a state takes in the area of the targets: its target and its bindings
abbrev pub target_length : ℕ
target_length = 3

-- the length of the largest image: each section has as many records as it may have
abbrev pub largest_image : ℕ
largest_image =
    directory_length + label_length * labels_max + register_length * registers_max + state_length * states_max + node_length * commands_max + node_length * expressions_max
