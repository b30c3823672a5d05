-- Cases at the far ends of numbers, of values and of runs: the top bit of each operand, the largest register and state, the last byte of an area, and many cycles.
use Prim.Native.Nat.{ℕ, zero, suc, ◌+◌, ◌-◌}
use mathlib.Core.Path.{◌≡◌, refl}
use mathlib.Core.Bool.{true, false}
use mathlib.Core.List.{List, [], ◌∷◌, ◌++◌, map}
use lib.ListN.{length, replicate, get_or}
use Rattle.model.specs.declared.Refusal.TheVariants.{Area, CycleCount, NoPort}
use Rattle.model.specs.Answers.{Accepted, Refused}
use Rattle.model.specs.Image.{Register, State, Node, Design}
use Rattle.model.specs.Kinds.{Operation, add, subtract, bitwise_and, bitwise_or, bitwise_xor, equal, less, signed_less, arithmetic_shift, signed_division}
use Rattle.model.specs.Trees.{constant, register, assign, branch}
use Rattle.model.specs.Values.{apply, words_of, bytes_of}
use Rattle.model.specs.Bindings.{named, bound_in, own_bound, bound_by, on_path, byte_sound, bound_sound, binding_sound}
use Rattle.model.specs.Machine.{eval, exec, reset_areas, target_sound, gone_to, cycle, after_cycles}
use Rattle.model.specs.Calls.{register_area_answer, length_answer, contents_answer, targets_answer, port_answer, cycles_answer}
use Rattle.model.specs.Parties.{was_written, a_write, remaining, values_seen, given_unseen}
use Rattle.model.specs.Neighbours.{common}
use Rattle.model.proofs.Opened.{everything, sights, lent_bound, areas_bound}

-- ---- values
-- an operation on the top bit and nothing, either way round, on the top bit twice, and on all bits and one
abbrev of_top_bits : Operation → List ℕ
of_top_bits o = apply o 2147483648 0 ∷ apply o 0 2147483648 ∷ apply o 2147483648 2147483648 ∷ apply o 4294967295 1 ∷ []

-- "Values are 32 bits; adding and subtracting wrap."
shows_add_top_bit : of_top_bits add ≡ 2147483648 ∷ 2147483648 ∷ 0 ∷ 0 ∷ []
shows_add_top_bit = unfold everything in refl

shows_subtract_top_bit : of_top_bits subtract ≡ 2147483648 ∷ 2147483648 ∷ 0 ∷ 4294967294 ∷ []
shows_subtract_top_bit = unfold everything in refl

-- "and, or, xor"
shows_and_top_bit : of_top_bits bitwise_and ≡ 0 ∷ 0 ∷ 2147483648 ∷ 1 ∷ []
shows_and_top_bit = unfold everything in refl

shows_or_top_bit : of_top_bits bitwise_or ≡ 2147483648 ∷ 2147483648 ∷ 2147483648 ∷ 4294967295 ∷ []
shows_or_top_bit = unfold everything in refl

shows_xor_top_bit : of_top_bits bitwise_xor ≡ 2147483648 ∷ 2147483648 ∷ 0 ∷ 4294967294 ∷ []
shows_xor_top_bit = unfold everything in refl

-- "Equal and less (unsigned) give 1 or 0."
shows_equal_top_bit : of_top_bits equal ≡ 0 ∷ 0 ∷ 1 ∷ 0 ∷ []
shows_equal_top_bit = unfold everything in refl

shows_less_top_bit : of_top_bits less ≡ 0 ∷ 1 ∷ 0 ∷ 0 ∷ []
shows_less_top_bit = unfold everything in refl

-- 02, E3: "32-bit two's complement"
shows_signed_top_bit : of_top_bits signed_less ++ of_top_bits arithmetic_shift ++ of_top_bits signed_division ≡ (1 ∷ 0 ∷ 0 ∷ 1 ∷ []) ++ (2147483648 ∷ 0 ∷ 2147483648 ∷ 4294967295 ∷ []) ++ (0 ∷ 0 ∷ 1 ∷ 4294967295 ∷ [])
shows_signed_top_bit = unfold everything in refl

-- "registers, 4 bytes each": the highest byte of the last value, read and written
shows_last_byte
    : get_or (words_of 64 (replicate 252 0 ++ (252 ∷ 253 ∷ 254 ∷ 255 ∷ []))) 63 0 ∷ bytes_of (0 ∷ 4294901244 ∷ []) ≡ 4294901244 ∷ 0 ∷ 0 ∷ 0 ∷ 0 ∷ 252 ∷ 253 ∷ 254 ∷ 255 ∷ []
shows_last_byte = unfold everything in refl

-- ---- registers
abbrev inner : ℕ → Register
inner width = record { label = 0; kind = 0; reset = 0; width = width }

-- an assignment to the largest register, and to the first of the upper half
shows_assign_63
    : map
    (λ r. (exec (replicate 64 (inner 32)) (replicate 64 0) (assign 0 r (constant 4294967295))).registers)
    (63 ∷ 32 ∷ [])
    ≡ (replicate 63 0 ++ (4294967295 ∷ [])) ∷ (replicate 32 0 ++ (4294967295 ∷ replicate 31 0)) ∷ []
shows_assign_63 = unfold everything in refl

-- it is cut by its own width, and read as it is
shows_read_63
    : get_or (exec (replicate 63 (inner 32) ++ (inner 10 ∷ [])) (replicate 64 0) (assign 0 63 (constant 4294967295))).registers 63 0 ∷ eval (replicate 63 0 ++ (4294967295 ∷ [])) (register 0 63) ∷ [] ≡ 1023 ∷ 4294967295 ∷ []
shows_read_63 = unfold everything in refl

-- "when the value is not 0": the top bit alone is not 0
shows_if_top_bit : (exec (inner 32 ∷ []) (0 ∷ []) (branch 0 (constant 2147483648) (assign 1 0 (constant 1)) (assign 2 0 (constant 2)))).registers ≡ 1 ∷ []
shows_if_top_bit = unfold everything in refl

-- ---- states
abbrev state_like : ℕ → ℕ → ℕ → State
state_like parent command parameters =
    record { parent = parent; label = 0; command = command; parameters = parameters; first_lower = 0; first_upper = 1; second_lower = 0; second_upper = 1 }

-- so many states, each below the one before it, from this number on; state n has command n
abbrev line : ℕ → ℕ → List State
line n zero = []
line n (suc more) = state_like (n - 1) n 0 ∷ line (suc n) more

abbrev command_of : ℕ → ℕ → Node
command_of kind item = record { kind = kind; item = item; a = 0; b = 0; c = 0 }

-- 64 registers, of which the last is a port, of label 1 and 10 bits; 64 states in a line, of which all fall but the last, which has two parameters and goes to itself
abbrev deepest : Design
deepest =
    record {
      rows = 3 ∷ 2 ∷ [];
      registers = replicate 63 (record { label = 0; kind = 0; reset = 7; width = 32 }) ++ (record { label = 1; kind = 1; reset = 1023; width = 10 } ∷ []);
      states = line 0 63 ++ (state_like 62 63 2 ∷ []);
      commands = replicate 63 (command_of 3 0) ++ (command_of 4 63 ∷ []);
      expressions = [];
    }

abbrev up_to : ℕ → ℕ → List ℕ
up_to n zero = []
up_to n (suc more) = n ∷ up_to (suc n) more

-- each state's target is its child, and the last one's is its own number
abbrev targets : List ℕ
targets = up_to 1 63 ++ (63 ∷ [])

-- "Reset writes the reset values and default children", and binds nothing: every register, state and binding
shows_reset_of_64 : reset_areas deepest ≡ areas_bound (replicate 63 7 ++ (1023 ∷ [])) targets (replicate 128 0)
shows_reset_of_64 = unfold everything in refl

-- "The walk is the list of states whose commands ran.": all 64
shows_walk_of_64 : (cycle deepest (areas_bound (replicate 64 0) targets (replicate 128 0))).walk ≡ up_to 0 64
shows_walk_of_64 = unfold everything in refl

-- "A target is a child of its state; a childless state's is its own number."
shows_target_of_63 : map (λ t. target_sound deepest (up_to 1 63 ++ (t ∷ [])) 63) (63 ∷ 62 ∷ 0 ∷ 64 ∷ 191 ∷ []) ++ (target_sound deepest targets 62 ∷ []) ≡ true ∷ false ∷ false ∷ false ∷ false ∷ true ∷ []
shows_target_of_63 = unfold everything in refl

-- "sets s and all its descendants to default children, then the parent's target to s": of the last state, and of the second
shows_goto_63 : gone_to deepest 63 (replicate 64 9) ∷ gone_to deepest 1 (replicate 64 9) ∷ [] ≡ (replicate 62 9 ++ (63 ∷ 63 ∷ [])) ∷ targets ∷ []
shows_goto_63 = unfold everything in refl

-- a goto binds both parameters of the last state, in the last two bytes
shows_binds_63 : bound_by deepest 63 61 62 (replicate 128 9) ≡ replicate 126 9 ++ (61 ∷ 62 ∷ [])
shows_binds_63 = unfold everything in refl

shows_bound_in_63
    : bound_in deepest (replicate 126 9 ++ (61 ∷ 62 ∷ [])) 63 ∷ own_bound deepest (replicate 126 9 ++ (61 ∷ 62 ∷ [])) 63 ∷ map (named (61 ∷ 62 ∷ [])) (62 ∷ 63 ∷ 64 ∷ 65 ∷ []) ∷ []
    ≡ (61 ∷ 62 ∷ []) ∷ (61 ∷ 62 ∷ []) ∷ (62 ∷ 63 ∷ 61 ∷ 62 ∷ []) ∷ []
shows_bound_in_63 = unfold everything in refl

-- "along the current targets": down to the last state, and not where the target above it is another
shows_path_to_63 : on_path deepest targets 63 ∷ on_path deepest (up_to 1 62 ++ (62 ∷ 63 ∷ [])) 63 ∷ on_path deepest (2 ∷ up_to 2 62 ++ (63 ∷ [])) 63 ∷ [] ≡ true ∷ false ∷ false ∷ []
shows_path_to_63 = unfold everything in refl

-- "each is 0 or an existing register's number": the last byte of the area; "is no port": r63
shows_last_binding
    : map (λ (r : ℕ). byte_sound deepest (replicate 127 0 ++ (r ∷ [])) 127) (63 ∷ 64 ∷ 128 ∷ 255 ∷ []) ++ map (λ (r : ℕ). bound_sound deepest (replicate 127 0 ++ (r ∷ [])) 127) (62 ∷ 63 ∷ [])
    ≡ true ∷ false ∷ false ∷ false ∷ true ∷ false ∷ []
shows_last_binding = unfold everything in refl

shows_last_state_bound
    : map (λ (r : ℕ). binding_sound deepest targets (replicate 127 0 ++ (r ∷ [])) 63) (62 ∷ 63 ∷ []) ++ map (λ (r : ℕ). binding_sound deepest targets (replicate 126 0 ++ (r ∷ 0 ∷ [])) 63) (62 ∷ 63 ∷ []) ≡ true ∷ false ∷ true ∷ false ∷ []
shows_last_state_bound = unfold everything in refl

-- ---- cycles
-- r0 counts them: state 1: r0 := r0 + 1; goto 1
abbrev counter : Design
counter =
    record {
      rows = 1 ∷ [];
      registers = inner 32 ∷ [];
      states = state_like 0 0 0 ∷ state_like 0 3 0 ∷ [];
      commands = command_of 3 0 ∷ record { kind = 1; item = 0; a = 2; b = 0; c = 0 } ∷ command_of 4 1 ∷ record { kind = 2; item = 0; a = 1; b = 2; c = 0 } ∷ [];
      expressions = command_of 1 0 ∷ record { kind = 0; item = 0; a = 0; b = 1; c = 0 } ∷ record { kind = 2; item = 0; a = 0; b = 1; c = 0 } ∷ [];
    }

-- n cycles, "each by the step rules from the areas before it": more than 255
shows_300_cycles : (after_cycles counter 300 (areas_bound (5 ∷ []) (1 ∷ 1 ∷ []) (replicate 4 0))).registers ≡ 305 ∷ []
shows_300_cycles = unfold everything in refl

-- "more than 1,000,000 cycles"
shows_high_cycle_counts : map cycles_answer (65536 ∷ 1000000 ∷ 1000001 ∷ 1048576 ∷ 16777216 ∷ 2147483648 ∷ 4294967295 ∷ []) ≡ Accepted 0 ∷ Accepted 0 ∷ replicate 5 (Refused CycleCount 0)
shows_high_cycle_counts = unfold everything in refl

-- ---- areas
-- 64 registers take 256 bytes, and neither none nor as many again; 64 states take 192
shows_lengths_of_64
    : map (λ n. register_area_answer deepest (replicate n 0)) (256 ∷ 0 ∷ 512 ∷ []) ++ map (λ n. length_answer deepest (lent_bound (replicate 256 0) (replicate n 0) [])) (192 ∷ 448 ∷ [])
    ≡ Accepted 0 ∷ Refused Area 0 ∷ Refused Area 0 ∷ Accepted 0 ∷ Refused Area 0 ∷ []
shows_lengths_of_64 = unfold everything in refl

-- "at the lowest register": the last one's, of 10 bits; "at the lowest state": the last one's target
shows_content_63 : map (λ high. contents_answer deepest (replicate 252 255 ++ (255 ∷ high ∷ 0 ∷ 0 ∷ []))) (3 ∷ 4 ∷ []) ≡ Accepted 0 ∷ Refused Area 63 ∷ []
shows_content_63 = unfold everything in refl

shows_targets_63 : map (λ t. targets_answer deepest (lent_bound [] (up_to 1 63 ++ (t ∷ [])) (replicate 128 0))) (63 ∷ 62 ∷ []) ≡ Accepted 0 ∷ Refused Area 63 ∷ []
shows_targets_63 = unfold everything in refl

-- "port write: no such register, or inner": r63 is the port; numbers of 32 bits are not cut
shows_port_numbers : map (port_answer deepest) (63 ∷ 62 ∷ 64 ∷ 319 ∷ 65599 ∷ 2147483711 ∷ 4294967295 ∷ []) ≡ Accepted 0 ∷ map (Refused NoPort) (62 ∷ 64 ∷ 319 ∷ 65599 ∷ 2147483711 ∷ 4294967295 ∷ [])
shows_port_numbers = unfold everything in refl

-- ---- what a party sees
-- the values of all registers at or below level 0, all but r63; and at level 1 the last one too, with each of its bits
shows_values_of_64 : map (λ level. values_seen deepest level (replicate 62 0 ++ (4294967295 ∷ 1023 ∷ []))) (0 ∷ 1 ∷ []) ≡ (replicate 62 0 ++ (4294967295 ∷ [])) ∷ (replicate 62 0 ++ (4294967295 ∷ 1023 ∷ [])) ∷ []
shows_values_of_64 = unfold sights in refl

-- "port writes (register and value)": the register and each bit of the value remain
shows_written_63 : map (λ level. remaining deepest level (was_written 63 4294967295 ∷ [])) (0 ∷ 1 ∷ []) ≡ [] ∷ (a_write 63 4294967295 ∷ []) ∷ []
shows_written_63 = unfold sights remaining in refl

-- "the registers not at or below the level are given any values": r63 at level 0, and none at level 1
shows_given_63 : map (λ level. given_unseen deepest level (λ r. 900 + r) (replicate 64 5)) (0 ∷ 1 ∷ []) ≡ (replicate 63 5 ++ (963 ∷ [])) ∷ replicate 64 5 ∷ []
shows_given_63 = unfold sights given_unseen in refl

-- 02, E14: "their bodies": of every state
shows_bodies_of_64 : length (common deepest 0).bodies ≡ 64
shows_bodies_of_64 = unfold everything common in refl
