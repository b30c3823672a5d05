-- Cases at the boundaries of the nodes: what each kind holds, and the uses of nodes; refusals 5 and 6, their places and their order.
use Prim.Native.Nat.{ℕ}
use mathlib.Core.Path.{◌≡◌, refl}
use mathlib.Core.List.{List, [], ◌∷◌, ◌++◌, map}
use lib.ListN.{replicate}
use Rattle.model.specs.Kinds.{ExpressionKind, constants, unknown_expression, operates, add, subtract, bitwise_and, bitwise_or, bitwise_xor, equal, less, signed_less, arithmetic_shift, signed_division, expression_kind}
use Rattle.model.proofs.Opened.{checks, refused, accepted, judged}
use Rattle.model.proofs.Designs.{assemble, one_state, node, register_record, state_record, skips, assigns, sequences, falls, goes_to, branches, constant, reads, adds}

abbrev one : List (List ℕ)
one = register_record 0 0 0 ∷ []

-- Images with one node x among others that are kept.

-- the root's command
abbrev of_root : List ℕ → List ℕ
of_root x = assemble (1 ∷ []) [] (state_record 0 0 0 ∷ state_record 0 0 1 ∷ []) (x ∷ goes_to 1 ∷ []) []

-- state 1 does x; x before a goto; x as the body over a skip and a goto; x as the body over two gotos
abbrev alone : List ℕ → List ℕ
alone x = one_state (1 ∷ []) [] 1 (x ∷ []) []

abbrev before_goto : List ℕ → List ℕ
before_goto x = one_state (1 ∷ []) [] 3 (x ∷ goes_to 1 ∷ sequences 1 2 ∷ []) []

abbrev over_skip : List ℕ → List ℕ
over_skip x = one_state (1 ∷ []) [] 3 (skips ∷ goes_to 1 ∷ x ∷ []) []

abbrev over_gotos : List ℕ → List ℕ
over_gotos x = one_state (1 ∷ []) [] 3 (goes_to 1 ∷ goes_to 1 ∷ x ∷ []) (constant 1 ∷ [])

-- x before a goto, where there are a register and a constant
abbrev assigning : List ℕ → List ℕ
assigning x = one_state (1 ∷ []) one 3 (x ∷ goes_to 1 ∷ sequences 1 2 ∷ []) (constant 1 ∷ [])

-- r0 gets the expression x; or x over two constants
abbrev of_value : List ℕ → List ℕ
of_value x = one_state (1 ∷ []) one 3 (assigns 0 0 ∷ goes_to 1 ∷ sequences 1 2 ∷ []) (x ∷ [])

abbrev of_operation : List ℕ → List ℕ
of_operation x = one_state (1 ∷ []) one 3 (assigns 0 2 ∷ goes_to 1 ∷ sequences 1 2 ∷ []) (constant 1 ∷ constant 2 ∷ x ∷ [])

-- "Bytes a kind does not use are zero." and refusal 5, "node kind, unused byte, or part, register or state number", kind by kind. The last node is kept.

-- "0 skip"
shows_skip
    : map (λ (x : List ℕ). judged (before_goto x)) (node 0 1 0 0 0 ∷ node 0 0 1 0 0 ∷ node 0 0 0 256 0 ∷ node 0 0 0 0 1 ∷ skips ∷ [])
    ≡ replicate 4 (refused 5 1) ++ (accepted 0 ∷ [])
shows_skip = unfold checks in refl

-- "1 assign register (byte 1) from expression a"
shows_assign
    : map (λ (x : List ℕ). judged (assigning x)) (node 1 1 0 0 0 ∷ node 1 0 1 0 0 ∷ node 1 0 0 1 0 ∷ node 1 0 0 0 256 ∷ assigns 0 0 ∷ [])
    ≡ replicate 4 (refused 5 1) ++ (accepted 0 ∷ [])
shows_assign = unfold checks in refl

-- "2 sequence of commands a, b"; "A part of the same family has a number below its owner's."
shows_sequence
    : map (λ (x : List ℕ). judged (over_skip x)) (node 2 1 1 2 0 ∷ node 2 0 3 2 0 ∷ node 2 0 1 3 0 ∷ node 2 0 1 2 1 ∷ sequences 1 2 ∷ [])
    ≡ replicate 4 (refused 5 3) ++ (accepted 0 ∷ [])
shows_sequence = unfold checks in refl

-- a sequence of commands above it
shows_part_above : judged (one_state (1 ∷ []) [] 1 (sequences 2 3 ∷ skips ∷ goes_to 1 ∷ []) []) ≡ refused 5 1
shows_part_above = unfold checks in refl

-- "3 fall"
shows_fall
    : map (λ (x : List ℕ). judged (of_root x)) (node 3 1 0 0 0 ∷ node 3 0 256 0 0 ∷ node 3 0 0 1 0 ∷ node 3 0 0 0 1 ∷ falls ∷ [])
    ≡ replicate 4 (refused 5 0) ++ (accepted 0 ∷ [])
shows_fall = unfold checks in refl

-- "4 goto state (byte 1)"; 02, E8: fields a and b, which "carry the arguments", are judged by 19, and field c by 5 as before
shows_goto
    : map (λ (x : List ℕ). judged (alone x)) (node 4 2 0 0 0 ∷ node 4 1 1 0 0 ∷ node 4 1 0 1 0 ∷ node 4 1 0 0 256 ∷ node 4 1 1 1 1 ∷ goes_to 1 ∷ [])
    ≡ refused 5 1 ∷ refused 19 1 ∷ refused 19 1 ∷ refused 5 1 ∷ refused 5 1 ∷ accepted 0 ∷ []
shows_goto = unfold checks in refl

-- "5 if expression a, then command b, else command c"
shows_if
    : map (λ (x : List ℕ). judged (over_gotos x)) (node 5 1 0 1 2 ∷ node 5 0 1 1 2 ∷ node 5 0 0 3 2 ∷ node 5 0 0 1 3 ∷ branches 0 1 2 ∷ [])
    ≡ replicate 4 (refused 5 3) ++ (accepted 0 ∷ [])
shows_if = unfold checks in refl

-- no other command kinds
shows_command_kinds : map (λ (x : List ℕ). judged (alone x)) (node 6 0 0 0 0 ∷ node 6 1 0 0 0 ∷ node 255 0 0 0 0 ∷ []) ≡ replicate 3 (refused 5 1)
shows_command_kinds = unfold checks in refl

-- "0 constant, 32 bits in bytes 4 to 7"
shows_constant_node
    : map (λ (x : List ℕ). judged (of_value x)) (node 0 1 0 0 0 ∷ node 0 0 1 0 0 ∷ node 0 0 0 1 0 ∷ node 0 0 0 0 1 ∷ [])
    ≡ refused 5 1024 ∷ refused 5 1024 ∷ accepted 0 ∷ accepted 0 ∷ []
shows_constant_node = unfold checks in refl

-- "1 register (byte 1)"
shows_read
    : map (λ (x : List ℕ). judged (of_value x)) (node 1 1 0 0 0 ∷ node 1 0 1 0 0 ∷ node 1 0 0 1 0 ∷ node 1 0 0 0 1 ∷ reads 0 ∷ [])
    ≡ replicate 4 (refused 5 1024) ++ (accepted 0 ∷ [])
shows_read = unfold checks in refl

-- "Kinds 2 to 8 take two parts each, a and b"; "A part of the same family has a number below its owner's."
shows_operation
    : map (λ (x : List ℕ). judged (of_operation x)) (node 2 1 0 1 0 ∷ node 2 0 2 1 0 ∷ node 2 0 0 2 0 ∷ node 2 0 0 1 1 ∷ node 12 0 0 1 0 ∷ node 255 0 0 1 0 ∷ [])
    ≡ replicate 6 (refused 5 1026)
shows_operation = unfold checks in refl

-- 02, E3: "Each takes two parts", of the kinds 9 to 11
shows_signed_operation
    : map
    (λ (kind : ℕ). map (λ (x : List ℕ). judged (of_operation x)) (node kind 1 0 1 0 ∷ node kind 0 2 1 0 ∷ node kind 0 0 2 0 ∷ node kind 0 0 1 1 ∷ []))
    (9 ∷ 10 ∷ 11 ∷ [])
    ≡ replicate 3 (replicate 4 (refused 5 1026))
shows_signed_operation = unfold checks in refl

-- "Kinds 2 to 8", and since E3 9 to 11, with the higher part first; "refusal 5 starts at kind 12"
shows_operations
    : map (λ (kind : ℕ). judged (of_operation (node kind 0 1 0 0))) (2 ∷ 3 ∷ 4 ∷ 5 ∷ 6 ∷ 7 ∷ 8 ∷ 9 ∷ 10 ∷ 11 ∷ 12 ∷ 13 ∷ [])
    ≡ replicate 10 (accepted 0) ++ replicate 2 (refused 5 1026)
shows_operations = unfold checks in refl

-- "add, subtract, and, or, xor, equal, less"; 02, E3: "signed less, arithmetic right shift and signed division"
shows_kinds
    : map expression_kind (0 ∷ 1 ∷ 2 ∷ 3 ∷ 4 ∷ 5 ∷ 6 ∷ 7 ∷ 8 ∷ 9 ∷ 10 ∷ 11 ∷ 12 ∷ [])
    ≡ constants
    ∷ ExpressionKind.reads
    ∷ operates add
    ∷ operates subtract
    ∷ operates bitwise_and
    ∷ operates bitwise_or
    ∷ operates bitwise_xor
    ∷ operates equal
    ∷ operates less
    ∷ operates signed_less
    ∷ operates arithmetic_shift
    ∷ operates signed_division
    ∷ unknown_expression
    ∷ []
shows_kinds = unfold checks in refl

-- "the lowest offending .. node (an expression's place is 1,024 plus its number)": the commands come first, then the lowest number
shows_lowest_node
    : map
    judged
    (one_state (1 ∷ []) [] 3 (goes_to 1 ∷ node 6 0 0 0 0 ∷ branches 0 1 2 ∷ []) (node 12 0 0 0 0 ∷ [])
    ∷ one_state (1 ∷ []) [] 1 (node 6 0 0 0 0 ∷ node 6 0 0 0 0 ∷ []) []
    ∷ one_state (1 ∷ []) one 3 (assigns 0 2 ∷ goes_to 1 ∷ sequences 1 2 ∷ []) (node 12 0 0 0 0 ∷ node 12 0 0 0 0 ∷ adds 0 1 ∷ [])
    ∷ [])
    ≡ refused 5 2 ∷ refused 5 1 ∷ refused 5 1024 ∷ []
shows_lowest_node = unfold checks in refl

-- "Every node is used exactly once: by a state, or as one part of another node": commands not used; used by two states, by a state and a command, by two
-- commands, and as both branches
shows_command_uses
    : map
    judged
    (one_state (1 ∷ []) [] 1 (goes_to 1 ∷ skips ∷ skips ∷ []) []
    ∷ assemble (1 ∷ []) [] (state_record 0 0 0 ∷ state_record 0 0 1 ∷ state_record 0 0 1 ∷ []) (falls ∷ goes_to 1 ∷ []) []
    ∷ assemble (1 ∷ []) [] (state_record 0 0 0 ∷ state_record 0 0 3 ∷ state_record 0 0 2 ∷ []) (falls ∷ skips ∷ goes_to 1 ∷ sequences 1 2 ∷ []) []
    ∷ one_state (1 ∷ []) [] 4 (skips ∷ goes_to 1 ∷ sequences 1 2 ∷ sequences 1 3 ∷ []) []
    ∷ one_state (1 ∷ []) [] 2 (goes_to 1 ∷ branches 0 1 1 ∷ []) (constant 1 ∷ [])
    ∷ [])
    ≡ refused 6 2 ∷ refused 6 1 ∷ refused 6 2 ∷ refused 6 1 ∷ refused 6 1 ∷ []
shows_command_uses = unfold checks in refl

-- expressions not used; used by two assignments, by an assignment and an if, by a command and an expression, and as both parts
shows_expression_uses
    : map
    judged
    (one_state (1 ∷ []) [] 1 (goes_to 1 ∷ []) (constant 1 ∷ constant 1 ∷ [])
    ∷ one_state (1 ∷ []) one 5 (assigns 0 0 ∷ assigns 0 0 ∷ sequences 1 2 ∷ goes_to 1 ∷ sequences 3 4 ∷ []) (constant 1 ∷ [])
    ∷ one_state (1 ∷ []) one 5 (assigns 0 0 ∷ goes_to 1 ∷ goes_to 1 ∷ branches 0 2 3 ∷ sequences 1 4 ∷ []) (constant 1 ∷ [])
    ∷ one_state (1 ∷ []) one 5 (assigns 0 0 ∷ assigns 0 2 ∷ sequences 1 2 ∷ goes_to 1 ∷ sequences 3 4 ∷ []) (constant 1 ∷ constant 1 ∷ adds 0 1 ∷ [])
    ∷ one_state (1 ∷ []) one 3 (assigns 0 1 ∷ goes_to 1 ∷ sequences 1 2 ∷ []) (constant 1 ∷ adds 0 0 ∷ [])
    ∷ [])
    ≡ replicate 5 (refused 6 1024)
shows_expression_uses = unfold checks in refl

-- "The lowest number that applies comes first": 5 before 6
shows_5_before_6
    : judged (assemble (1 ∷ []) [] (state_record 0 0 0 ∷ state_record 0 0 0 ∷ []) (falls ∷ node 6 0 0 0 0 ∷ []) []) ≡ refused 5 1
shows_5_before_6 = unfold checks in refl
