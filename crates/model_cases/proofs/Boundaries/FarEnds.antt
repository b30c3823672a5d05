-- Cases at the far ends of numbers, of records and of the image checks: high indices, top bits and bytes, the largest register, state, label and node, and which of
-- two faults of one pass is told.
use Rattle.std.specs.Prelude.{Some}
use Prim.Native.Nat.{ℕ, zero, suc, ◌+◌, ◌-◌}
use mathlib.Core.Path.{◌≡◌, refl}
use mathlib.Core.Bool.{true, false, not}
use mathlib.Core.List.{List, [], ◌∷◌, ◌++◌, map}
use lib.Dec.{ltb, eqb}
use lib.ListN.{length, replicate, get_or}
use Rattle.model.specs.Indices.{all_below, some_below, lowest, lowest_failing, lowest_of, occurrences, tabulate_from, tabulate, filled_to, join_below, recursively}
use Rattle.model.specs.Image.{Register, State, Node, Design, no_node, word16_at, word32_at, row_of, register_of, state_of, node_of, constant_of, count, offset, Registers, Commands, Expressions}
use Rattle.model.specs.Lattice.{flows_to, row_inside, reflexive, antisymmetric, transitive, least_full, joined}
use Rattle.model.specs.States.{register_kept, state_kept, is_child, has_child, default_target, sibling_or_self, within}
use Rattle.model.specs.Kinds.{sequences, assigns, goes, branches, unknown_command, operates, add, unknown_expression, command_kind, expression_kind, command_holds, expression_holds}
use Rattle.model.specs.Trees.{goto, body_of}
use Rattle.model.specs.Parameters.{scope_of, lower_bound, upper_bound, within_bounds, has_parameters, label_byte, label_under, label_in_scope}
use Rattle.model.specs.Scopes.{name_kept, is_argument}
use Rattle.model.specs.Ports.{names_no_port}
use Rattle.model.specs.Raising.{join_of, put_labels}
use Rattle.model.specs.Neighbours.{is_excepted}
use Rattle.model.proofs.Opened.{checks, raising}

-- ---- indices
-- "the lowest offending label, register, state or node": up to the last of 2,048
shows_last_of_2048
    : all_below (λ i. not (eqb i 2047)) 2048 ∷ some_below (λ i. eqb i 2047) 2048 ∷ [] ≡ false ∷ true ∷ []
shows_last_of_2048 = unfold checks in refl

shows_lowest_of_2048
    : lowest (λ i. ltb 2046 i) 2048 ∷ lowest_failing (λ i. ltb i 1023) 1024 ∷ lowest_of (3071 ∷ 1023 ∷ 1280 ∷ []) ∷ [] ≡ Some 2047 ∷ Some 1023 ∷ Some 1023 ∷ []
shows_lowest_of_2048 = unfold checks in refl

-- more than 255 of one, and entries from 128 on
shows_many
    : occurrences 5 (replicate 300 5 ++ (2047 ∷ [])) ∷ occurrences 5 (261 ∷ 5 ∷ 1029 ∷ []) ∷ length (tabulate (λ i. i) 300) ∷ get_or (tabulate (λ i. i) 300) 299 0 ∷ get_or (join_below (λ i. i ∷ []) 300) 299 0 ∷ []
    ≡ 300 ∷ 1 ∷ 300 ∷ 299 ∷ 299 ∷ []
shows_many = unfold checks in refl

-- a table that is filled up to an entry: not beyond it, and no further than it is long
shows_filled
    : filled_to (λ k. k + 5) 2 (9 ∷ 9 ∷ 9 ∷ []) ∷ filled_to (λ k. k + 5) 0 (9 ∷ []) ∷ filled_to (λ k. k + 5) 3 (9 ∷ 9 ∷ []) ∷ []
    ≡ (5 ∷ 6 ∷ 9 ∷ []) ∷ (9 ∷ []) ∷ (5 ∷ 6 ∷ []) ∷ []
unfolding filled_to tabulate tabulate_from
shows_filled = refl

-- recursion from the highest node down to the lowest
shows_recursion_from_2047 : recursively 0 (λ n below. suc (below (n - 1))) 2047 ≡ 2048
shows_recursion_from_2047 = unfold checks in refl

-- ---- fields
-- "fields little-endian", of 16 and of 32 bits: the top bits
shows_top_bits : word16_at (0 ∷ 128 ∷ []) 0 ∷ word16_at (255 ∷ 255 ∷ []) 0 ∷ word32_at (0 ∷ 0 ∷ 0 ∷ 128 ∷ []) 0 ∷ word32_at (255 ∷ 255 ∷ 255 ∷ 255 ∷ []) 0 ∷ row_of (0 ∷ 128 ∷ []) ∷ [] ≡ 32768 ∷ 65535 ∷ 2147483648 ∷ 4294967295 ∷ 32768 ∷ []
shows_top_bits = unfold checks in refl

-- each byte of a record, with the highest in it
shows_high_register : register_of (15 ∷ 255 ∷ 252 ∷ 253 ∷ 254 ∷ 255 ∷ 251 ∷ []) ≡ record { label = 15; kind = 255; reset = 4294901244; width = 251 }
shows_high_register = unfold checks in refl

shows_high_state
    : state_of (255 ∷ 254 ∷ 253 ∷ 252 ∷ 251 ∷ 250 ∷ 249 ∷ 248 ∷ 247 ∷ [])
    ≡ record { parent = 255; label = 254; command = 64765; parameters = 251; first_lower = 250; first_upper = 249; second_lower = 248; second_upper = 247 }
shows_high_state = unfold checks in refl

shows_high_node : node_of (255 ∷ 254 ∷ 253 ∷ 252 ∷ 251 ∷ 250 ∷ 249 ∷ 248 ∷ []) ≡ record { kind = 255; item = 254; a = 64765; b = 64251; c = 63737 }
shows_high_node = unfold checks in refl

shows_high_constant : constant_of (record { kind = 0; item = 0; a = 0; b = 65535; c = 65535 }) ∷ constant_of (record { kind = 0; item = 0; a = 0; b = 0; c = 32768 }) ∷ [] ≡ 4294967295 ∷ 2147483648 ∷ []
shows_high_constant = unfold checks in refl

-- the directory of the largest image
abbrev directory : List ℕ
directory = 20 ∷ 0 ∷ 32 ∷ 0 ∷ 52 ∷ 0 ∷ 192 ∷ 1 ∷ 244 ∷ 1 ∷ 64 ∷ 2 ∷ 52 ∷ 4 ∷ 0 ∷ 32 ∷ 52 ∷ 36 ∷ 0 ∷ 64 ∷ []

-- 64 registers, 1,024 commands, 2,048 expressions, and where the last section begins
shows_high_counts
    : count directory Registers ∷ count directory Commands ∷ count directory Expressions ∷ offset directory Expressions ∷ [] ≡ 64 ∷ 1024 ∷ 2048 ∷ 9268 ∷ []
shows_high_counts = unfold checks in refl

-- ---- labels
-- twelve labels one above the other, label 0 least, with these four above them: labels 12 to 15
abbrev sixteen : ℕ → ℕ → ℕ → ℕ → List ℕ
sixteen a b c d =
    65535 ∷ 65534 ∷ 65532 ∷ 65528 ∷ 65520 ∷ 65504 ∷ 65472 ∷ 65408 ∷ 65280 ∷ 65024 ∷ 64512 ∷ 63488 ∷ a ∷ b ∷ c ∷ d ∷ []

-- "bit j of row i set means i flows to j": bit 15 of row 15, of row 0 and of row 14, and bit 14 of row 15
shows_flow_of_15
    : flows_to (sixteen 61440 57344 49152 32768) 15 15 ∷ flows_to (sixteen 61440 57344 49152 32768) 0 15 ∷ flows_to (sixteen 61440 57344 16384 32768) 14 15 ∷ flows_to (sixteen 61440 57344 49152 32768) 15 14 ∷ []
    ≡ true ∷ true ∷ false ∷ false ∷ []
shows_flow_of_15 = unfold checks in refl

-- "no bit at or above the label count": of 15 labels, bit 15
shows_row_of_15_labels : map (λ row. row_inside (replicate 14 32767 ++ (row ∷ [])) 14) (16384 ∷ 32768 ∷ 49152 ∷ []) ≡ true ∷ false ∷ false ∷ []
shows_row_of_15_labels = unfold checks in refl

-- each rule of a high label with the last one: reflexive of 15; 14 and 15 flow to each other; row 0 without bit 15
shows_rules_of_15
    : reflexive (sixteen 61440 57344 49152 16384) 15 ∷ antisymmetric (sixteen 61440 57344 49152 49152) 14 ∷ least_full (32767 ∷ replicate 15 32768) 0 ∷ [] ≡ false ∷ false ∷ false ∷ []
shows_rules_of_15 = unfold checks in refl

-- "transitive": 13 flows to 14, 14 to 15, and 13 not to 15; and 13 flows to 15, 15 to 14, and 13 not to 14
shows_transitive_of_15 : transitive (sixteen 61440 24576 49152 32768) 13 ∷ transitive (sixteen 61440 40960 16384 49152) 13 ∷ [] ≡ false ∷ false ∷ []
shows_transitive_of_15 = unfold checks in refl

-- "a least common label above them": 13 and 14 have 15; 14 and 15 have none; 12 and 13 have 14 and 15, of which neither is below the other
shows_joins_of_15
    : joined (sixteen 61440 40960 49152 32768) 13 ∷ joined (sixteen 61440 57344 16384 32768) 14 ∷ joined (sixteen 53248 57344 16384 32768) 12 ∷ [] ≡ true ∷ false ∷ false ∷ []
shows_joins_of_15 = unfold checks in refl

-- ---- registers and states
-- a register of 32 bits with this label and kind
abbrev register_with : ℕ → ℕ → ℕ → ℕ → Register
register_with label kind reset width = record { label = label; kind = kind; reset = reset; width = width }

abbrev state_like : ℕ → ℕ → ℕ → ℕ → State
state_like parent label command parameters =
    record { parent = parent; label = label; command = command; parameters = parameters; first_lower = 14; first_upper = 15; second_lower = 1; second_upper = 15 }

-- so many states, each below the one before it; the first has this number, and state n has command 960 + n
abbrev line : ℕ → ℕ → List State
line n zero = []
line n (suc more) =
    record { parent = n - 1; label = 0; command = 960 + n; parameters = 0; first_lower = 0; first_upper = 0; second_lower = 0; second_upper = 0 } ∷ line (suc n) more

-- 16 labels, 63 registers and this one, 63 states in a line and this one, 1,024 commands of which the last is this one, and 2,048 expressions
abbrev lattice : List ℕ
lattice = sixteen 61440 57344 49152 32768

abbrev full : Register → State → Node → Node → Design
full register state command expression =
    record {
      rows = lattice;
      registers = replicate 63 (register_with 0 0 0 32) ++ (register ∷ []);
      states = line 0 63 ++ (state ∷ []);
      commands = replicate 1023 no_node ++ (command ∷ []);
      expressions = replicate 2047 no_node ++ (expression ∷ []);
    }

abbrev plain_node : ℕ → ℕ → ℕ → ℕ → ℕ → Node
plain_node kind item a b c = record { kind = kind; item = item; a = a; b = b; c = c }

abbrev with_register : Register → Design
with_register register = full register (state_like 62 0 1023 0) no_node no_node

abbrev with_state : State → Design
with_state state = full (register_with 15 1 4294967295 32) state no_node no_node

abbrev with_command : Node → Design
with_command command = full (register_with 15 1 4294967295 32) (state_like 62 15 1023 2) command no_node

-- r63: "label, kind (0 inner, 1 port), 32-bit reset value", with the largest label, and bytes with their top bit set
shows_register_63
    : map
    (λ register. register_kept (with_register register) 63)
    (register_with 15 1 4294967295 32 ∷ register_with 16 1 0 32 ∷ register_with 128 0 0 32 ∷ register_with 0 128 0 32 ∷ register_with 0 255 0 32 ∷ register_with 0 0 2147483648 31 ∷ register_with 0 0 0 160 ∷ [])
    ≡ true ∷ replicate 6 false
shows_register_63 = unfold checks in refl

-- state 63: its parent below it, label 15, and command 1023
shows_state_63
    : map
    (λ state. state_kept (with_state state) 63)
    (state_like 62 15 1023 0 ∷ state_like 63 0 0 0 ∷ state_like 190 0 0 0 ∷ state_like 0 128 0 0 ∷ state_like 0 145 0 0 ∷ state_like 0 0 1024 0 ∷ state_like 0 0 32769 0 ∷ [])
    ≡ true ∷ replicate 6 false
shows_state_63 = unfold checks in refl

abbrev deepest : Design
deepest = with_state (state_like 62 15 1023 2)

-- "The default child is the lowest-numbered child": the last state is a child, and has none
shows_last_child
    : is_child deepest 62 63 ∷ is_child deepest 62 64 ∷ has_child deepest 62 ∷ has_child deepest 63 ∷ sibling_or_self deepest 63 63 ∷ within deepest 1 63 ∷ within deepest 63 63 ∷ within deepest 63 62 ∷ []
    ≡ true ∷ false ∷ true ∷ false ∷ true ∷ true ∷ true ∷ false ∷ []
shows_last_child = unfold checks in refl

shows_default_of_62 : default_target deepest 62 ∷ default_target deepest 63 ∷ [] ≡ 63 ∷ 63 ∷ []
shows_default_of_62 = unfold checks in refl

-- ---- nodes
-- "refusal 5 starts at kind 12", of commands at kind 6: kinds with their top bit set
shows_high_kinds : map command_kind (128 ∷ 132 ∷ 255 ∷ []) ≡ replicate 3 unknown_command
shows_high_kinds = unfold checks in refl

shows_high_expression_kinds : map expression_kind (128 ∷ 139 ∷ 255 ∷ []) ≡ replicate 3 unknown_expression
shows_high_expression_kinds = unfold checks in refl

-- parts below their owner by both bytes of the number; the last expression, and the first behind it; the last register and state, and bytes behind them
shows_high_parts
    : map (command_holds deepest 1023 sequences) (plain_node 2 0 1022 1021 0 ∷ plain_node 2 0 1023 0 0 ∷ plain_node 2 0 0 1024 0 ∷ plain_node 2 0 0 33000 0 ∷ []) ≡ true ∷ false ∷ false ∷ false ∷ []
shows_high_parts = unfold checks in refl

shows_high_values
    : map (command_holds deepest 5 assigns) (plain_node 1 63 2047 0 0 ∷ plain_node 1 0 2048 0 0 ∷ plain_node 1 0 34000 0 0 ∷ plain_node 1 66 0 0 0 ∷ plain_node 1 191 0 0 0 ∷ plain_node 1 255 0 0 0 ∷ [])
    ≡ true ∷ replicate 5 false
shows_high_values = unfold checks in refl

shows_high_states : map (command_holds deepest 5 goes) (plain_node 4 63 0 0 0 ∷ plain_node 4 64 0 0 0 ∷ plain_node 4 128 0 0 0 ∷ plain_node 4 255 0 0 0 ∷ []) ≡ true ∷ replicate 3 false
shows_high_states = unfold checks in refl

shows_high_branches
    : map (command_holds deepest 1023 branches) (plain_node 5 0 2047 1021 1022 ∷ plain_node 5 0 2048 0 0 ∷ plain_node 5 0 0 1023 0 ∷ plain_node 5 0 0 0 1023 ∷ plain_node 5 128 0 0 0 ∷ []) ≡ true ∷ replicate 4 false
shows_high_branches = unfold checks in refl

shows_high_operands
    : map (expression_holds deepest 2047 (operates add)) (plain_node 2 0 2046 2045 0 ∷ plain_node 2 0 2047 0 0 ∷ plain_node 2 0 0 2047 0 ∷ plain_node 2 0 0 0 32768 ∷ plain_node 2 128 0 0 0 ∷ []) ≡ true ∷ replicate 4 false
shows_high_operands = unfold checks in refl

-- the body of the last state is its command, 1023: a goto, with the highest argument fields as they are written
shows_body_of_63 : body_of (with_command (plain_node 4 63 65 320 0)) 63 ≡ goto 1023 63 65 320
shows_body_of_63 = unfold checks in refl

-- an assignment to r63, a port, by the last command
shows_port_63 : names_no_port (with_command (plain_node 1 63 0 0 0)) 1023 ∷ names_no_port (with_command (plain_node 4 63 0 63 0)) 1023 ∷ names_no_port (with_command (plain_node 4 63 0 62 0)) 1023 ∷ [] ≡ false ∷ false ∷ true ∷ []
shows_port_63 = unfold checks in refl

-- ---- parameters
-- "numbered 0 and 1": of the last state two, with the numbers 126 and 127, their bounds and what lies within them
shows_parameters_of_63 : scope_of deepest 63 ≡ 126 ∷ 127 ∷ []
shows_parameters_of_63 = unfold checks in refl

shows_bounds_of_63
    : lower_bound deepest 126 ∷ upper_bound deepest 126 ∷ lower_bound deepest 127 ∷ upper_bound deepest 127 ∷ [] ≡ 14 ∷ 15 ∷ 1 ∷ 15 ∷ []
shows_bounds_of_63 = unfold checks in refl

shows_within_15 : within_bounds deepest 126 15 ∷ within_bounds deepest 126 13 ∷ within_bounds deepest 127 15 ∷ within_bounds deepest 127 0 ∷ [] ≡ true ∷ false ∷ true ∷ false ∷ []
shows_within_15 = unfold checks in refl

-- "an image that has parameters": in its last state alone
shows_last_has_parameters : has_parameters deepest ∷ has_parameters (with_state (state_like 62 0 1023 0)) ∷ [] ≡ true ∷ false ∷ []
shows_last_has_parameters = unfold raising in refl

-- "Register bytes 64 and 65 name them, and state label bytes 16 and 17 stand for their labels": r63 is a register yet, and label 15 a label
shows_label_bytes : map (label_byte deepest) (62 ∷ 63 ∷ 64 ∷ 65 ∷ []) ++ map (label_under (7 ∷ 9 ∷ [])) (14 ∷ 15 ∷ 16 ∷ 17 ∷ []) ≡ 0 ∷ 15 ∷ 16 ∷ 17 ∷ 14 ∷ 15 ∷ 7 ∷ 9 ∷ []
shows_label_bytes = unfold checks in refl

shows_names_of_63 : map (name_kept deepest 63) (63 ∷ 64 ∷ 65 ∷ 66 ∷ 255 ∷ []) ++ map (is_argument deepest 63) (63 ∷ 64 ∷ 65 ∷ 66 ∷ 319 ∷ 321 ∷ []) ≡ true ∷ true ∷ true ∷ false ∷ false ∷ true ∷ true ∷ true ∷ false ∷ false ∷ false ∷ []
shows_names_of_63 = unfold checks in refl

shows_label_in_scope : map (λ label. label_in_scope (with_state (state_like 62 label 1023 1)) 63) (15 ∷ 16 ∷ 17 ∷ 255 ∷ []) ≡ true ∷ true ∷ false ∷ false ∷ []
shows_label_in_scope = unfold checks in refl

-- ---- raising, and neighbours
-- the least label above labels 13 and 14, and above 0 and 15, is 15; above 13 and 15, where 15 is below 14, it is 15 too
shows_join_15
    : join_of (sixteen 61440 40960 49152 32768) (13 ∷ 14 ∷ []) ∷ join_of lattice (0 ∷ 15 ∷ []) ∷ join_of (sixteen 61440 57344 16384 49152) (13 ∷ 15 ∷ []) ∷ [] ≡ 15 ∷ 15 ∷ 15 ∷ []
shows_join_15 = unfold raising in refl

-- the label of the last of 64 registers, 7 bytes each from byte 20 on
shows_label_of_63_put : get_or (put_labels 20 (replicate 63 1 ++ (15 ∷ [])) (replicate 500 0)) 461 0 ≡ 15
shows_label_of_63_put = unfold raising in refl

-- "states whose fixed label is not at or below a level": label 15 is fixed, and bytes 16 and 17 are not
shows_excepted_15 : map (λ label. is_excepted (with_state (state_like 62 label 1023 2)) 14 63) (14 ∷ 15 ∷ 16 ∷ 17 ∷ []) ≡ false ∷ true ∷ false ∷ false ∷ []
shows_excepted_15 = unfold checks is_excepted in refl
