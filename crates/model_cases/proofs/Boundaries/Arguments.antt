-- Cases at the boundaries of 02's E8, the arguments of a goto and the parameters that a body names: refusals 16 and 19 at nodes, their places and their order.
use Prim.Native.Nat.{ℕ}
use mathlib.Core.Path.{◌≡◌, refl}
use mathlib.Core.List.{List, [], ◌∷◌, ◌++◌, map}
use lib.ListN.{replicate}
use Rattle.model.specs.Answers.{Numbers}
use Rattle.model.proofs.Opened.{checks, refused, accepted, judged}
use Rattle.model.proofs.Designs.{assemble, diamond, one_of_each, chain, node, register_record, state_record, state_with, skips, assigns, sequences, falls, goes_to, goes_with, goes_with_both, branches, constant, reads, adds}

-- ---- registers as arguments
-- r0 to r3 have the labels 0 to 3, and r4 is a port. State 1 goes to state 2, which has this record and command 2, with the fields a and b.
abbrev given : List ℕ → ℕ → ℕ → List ℕ
given two a b =
    assemble
    diamond
    (one_of_each ++ (register_record 0 1 0 ∷ []))
    (state_record 0 0 0 ∷ state_record 0 0 1 ∷ two ∷ [])
    (falls ∷ goes_with_both 2 a b ∷ goes_to 1 ∷ [])
    []

abbrev one : ℕ → ℕ → List ℕ
one lower upper = state_with 0 0 2 1 lower upper 0 0

-- a goto of each register r0 to r3 to a parameter with these bounds
abbrev each_register : ℕ → ℕ → List Numbers
each_register lower upper = map (λ (r : ℕ). judged (given (one lower upper) r 0)) (0 ∷ 1 ∷ 2 ∷ 3 ∷ [])

-- "each within the bounds it is given to": from the lower to the upper, and neither below, nor above, nor beside
shows_argument_within
    : each_register 0 3 ∷ each_register 1 1 ∷ each_register 1 3 ∷ each_register 0 1 ∷ each_register 2 3 ∷ each_register 3 3 ∷ []
    ≡ replicate 4 (accepted 0)
    ∷ (refused 19 1 ∷ accepted 0 ∷ refused 19 1 ∷ refused 19 1 ∷ [])
    ∷ (refused 19 1 ∷ accepted 0 ∷ refused 19 1 ∷ accepted 0 ∷ [])
    ∷ (accepted 0 ∷ accepted 0 ∷ refused 19 1 ∷ refused 19 1 ∷ [])
    ∷ (refused 19 1 ∷ refused 19 1 ∷ accepted 0 ∷ accepted 0 ∷ [])
    ∷ (refused 19 1 ∷ refused 19 1 ∷ refused 19 1 ∷ accepted 0 ∷ [])
    ∷ []
shows_argument_within = unfold checks in refl

-- of two parameters each has its own bounds: the first 0 to 1, the second 2 to 3
shows_arguments_within
    : map (λ (ab : ℕ × ℕ). judged (given (state_with 0 0 2 2 0 1 2 3) ab.0 ab.1)) ((0, 2) ∷ (1, 3) ∷ (2, 2) ∷ (3, 3) ∷ (0, 0) ∷ (1, 1) ∷ (2, 0) ∷ [])
    ≡ accepted 0 ∷ accepted 0 ∷ replicate 5 (refused 19 1)
shows_arguments_within = unfold checks in refl

-- a field that is used and is no register, nor a parameter in scope: 5 registers; the low byte of a field is not all of it; 5 does not judge it
shows_no_argument
    : map (λ (r : ℕ). judged (given (one 0 3) r 0)) (5 ∷ 63 ∷ 64 ∷ 65 ∷ 66 ∷ 256 ∷ 320 ∷ 65535 ∷ []) ≡ replicate 8 (refused 19 1)
shows_no_argument = unfold checks in refl

-- the same of the second field
shows_no_second_argument
    : map (λ (r : ℕ). judged (given (state_with 0 0 2 2 0 3 0 3) 0 r)) (3 ∷ 5 ∷ 63 ∷ 64 ∷ 65 ∷ 66 ∷ 256 ∷ 65535 ∷ []) ≡ accepted 0 ∷ replicate 7 (refused 19 1)
shows_no_second_argument = unfold checks in refl

-- "zero when unused": both fields of a goto to a state without parameters, the second of one to a state with one
shows_unused_fields
    : map (λ (ab : ℕ × ℕ). judged (given (state_record 0 0 2) ab.0 ab.1)) ((0, 0) ∷ (1, 0) ∷ (0, 1) ∷ (64, 0) ∷ (0, 256) ∷ [])
    ++ map (λ (b : ℕ). judged (given (one 0 3) 1 b)) (0 ∷ 1 ∷ 64 ∷ 256 ∷ [])
    ≡ (accepted 0 ∷ replicate 4 (refused 19 1)) ++ (accepted 0 ∷ replicate 3 (refused 19 1))
shows_unused_fields = unfold checks in refl

-- field c is 5's as before
shows_field_c
    : map
    (λ (c : ℕ). judged (assemble (1 ∷ []) [] (state_record 0 0 0 ∷ state_record 0 0 1 ∷ []) (falls ∷ node 4 1 0 0 c ∷ []) []))
    (0 ∷ 1 ∷ 256 ∷ [])
    ≡ accepted 0 ∷ refused 5 1 ∷ refused 5 1 ∷ []
shows_field_c = unfold checks in refl

-- ---- ports as arguments
-- "Ports are never arguments (refusal 16, at the goto, for a field numbered below the named state's count)": r4 in the first and in the second field, by count;
-- an unused field is 19's, and a count above 2 reads both fields, before 19 judges the count
shows_port_argument
    : map
    (λ (count : ℕ). map (λ (ab : ℕ × ℕ). judged (given (state_with 0 0 2 count 0 0 0 0) ab.0 ab.1)) ((0, 0) ∷ (4, 0) ∷ (0, 4) ∷ []))
    (0 ∷ 1 ∷ 2 ∷ 3 ∷ [])
    ≡ (accepted 0 ∷ refused 19 1 ∷ refused 19 1 ∷ [])
    ∷ (accepted 0 ∷ refused 16 1 ∷ refused 19 1 ∷ [])
    ∷ (accepted 0 ∷ refused 16 1 ∷ refused 16 1 ∷ [])
    ∷ (refused 19 2 ∷ refused 16 1 ∷ refused 16 1 ∷ [])
    ∷ []
shows_port_argument = unfold checks in refl

-- a port is not judged by its bounds: 16 comes before them, here where r4 lies outside
shows_port_outside_bounds : judged (given (one 3 3) 4 0) ≡ refused 16 1
shows_port_outside_bounds = unfold checks in refl

-- 16 at the lowest command, whether it assigns or goes: r4 := 1 and a goto with r4, in both orders
shows_lowest_port
    : map
    (λ (commands : List (List ℕ)).
    judged
    (assemble diamond (one_of_each ++ (register_record 0 1 0 ∷ [])) (state_record 0 0 0 ∷ state_record 0 0 3 ∷ state_with 0 0 4 1 0 0 0 0 ∷ []) (falls ∷ commands) (constant 1 ∷ [])))
    ((assigns 4 0 ∷ goes_with 2 4 ∷ sequences 1 2 ∷ goes_to 1 ∷ []) ∷ (goes_with 2 4 ∷ assigns 4 0 ∷ sequences 2 1 ∷ goes_to 1 ∷ []) ∷ (assigns 0 0 ∷ goes_with 2 4 ∷ sequences 1 2 ∷ goes_to 1 ∷ []) ∷ [])
    ≡ refused 16 1 ∷ refused 16 1 ∷ refused 16 2 ∷ []
shows_lowest_port = unfold checks in refl

-- ---- parameters as arguments
-- State 2 with this record goes to state 3 with this record, with the fields a and b; state 3 goes to 1.
abbrev handed : List ℕ → List ℕ → ℕ → ℕ → List ℕ
handed two three a b =
    assemble diamond one_of_each (state_record 0 0 0 ∷ state_record 0 0 1 ∷ two ∷ three ∷ []) (falls ∷ goes_to 1 ∷ goes_with_both 3 a b ∷ goes_to 1 ∷ []) []

-- p with the first pair of bounds is given to one with the second pair
abbrev handed_one : ℕ → ℕ → ℕ → ℕ → Numbers
handed_one lower upper to_lower to_upper = judged (handed (state_with 0 0 2 1 lower upper 0 0) (state_with 0 0 3 1 to_lower to_upper 0 0) 64 0)

-- "(a parameter so for its every choice)": the same bounds, wider ones; narrower ones fail for the lower choice, for the upper, for one beside
shows_parameter_within
    : handed_one 0 3 0 3 ∷ handed_one 1 1 0 1 ∷ handed_one 1 1 1 3 ∷ handed_one 0 1 0 3 ∷ handed_one 0 1 1 3 ∷ handed_one 0 3 0 1 ∷ handed_one 1 3 1 1 ∷ handed_one 2 2 1 3 ∷ handed_one 2 2 0 1 ∷ []
    ≡ replicate 4 (accepted 0) ++ replicate 5 (refused 19 2)
shows_parameter_within = unfold checks in refl

-- Two parameters are given to two, with these fields: the first has the bounds 0 and 1, the second 1 and 3, and those that they are given to the same.
abbrev handed_two : ℕ → ℕ → Numbers
handed_two a b = judged (handed (state_with 0 0 2 2 0 1 1 3) (state_with 0 0 3 2 0 1 1 3) a b)

-- each by its own number; exchanged, or one twice, it lies outside; and with a register beside it
shows_parameters_within
    : handed_two 64 65 ∷ handed_two 65 64 ∷ handed_two 64 64 ∷ handed_two 65 65 ∷ handed_two 64 3 ∷ handed_two 0 65 ∷ handed_two 64 0 ∷ handed_two 3 65 ∷ handed_two 64 66 ∷ []
    ≡ accepted 0 ∷ replicate 3 (refused 19 2) ++ (accepted 0 ∷ accepted 0 ∷ replicate 3 (refused 19 2))
shows_parameters_within = unfold checks in refl

-- a parameter that is not in scope of the goto's state, though the named state has it
shows_argument_in_scope
    : map (λ (a : ℕ). judged (handed (state_with 0 0 2 1 0 0 0 0) (state_with 0 0 3 1 0 3 0 0) a 0)) (64 ∷ 65 ∷ [])
    ++ map (λ (a : ℕ). judged (handed (state_record 0 0 2) (state_with 0 0 3 2 0 3 0 3) a 0)) (0 ∷ 64 ∷ 65 ∷ [])
    ≡ accepted 0 ∷ refused 19 2 ∷ accepted 0 ∷ refused 19 2 ∷ refused 19 2 ∷ []
shows_argument_in_scope = unfold checks in refl

-- ---- a parameter of the states above
-- State 2 has the parameter p from 0 to 1. Below it state 3, the default child, has the body given, and state 4 has a parameter q of its own with these bounds and this body.
abbrev inherited : ℕ → ℕ → List (List ℕ) → List (List ℕ) → List (List ℕ) → List ℕ
inherited lower upper three four expressions =
    assemble
    diamond
    one_of_each
    (state_record 0 0 0 ∷ state_record 0 0 1 ∷ state_with 0 0 2 1 0 1 0 0 ∷ state_record 2 0 5 ∷ state_with 2 0 8 1 lower upper 0 0 ∷ [])
    (falls ∷ goes_to 1 ∷ falls ∷ (three ++ four))
    expressions

abbrev stays : List (List ℕ)
stays = skips ∷ goes_to 3 ∷ sequences 3 4 ∷ []

abbrev leaves : List (List ℕ)
leaves = skips ∷ goes_to 3 ∷ sequences 6 7 ∷ []

-- 3 gives the inherited p to 4, within its bounds and not; 65 is not in its scope
shows_inherited_argument
    : map
    (λ (x : (ℕ × ℕ) × ℕ). judged (inherited x.0.0 x.0.1 (skips ∷ goes_with 4 x.1 ∷ sequences 3 4 ∷ []) leaves []))
    (((0, 1), 64) ∷ ((0, 3), 64) ∷ ((0, 0), 64) ∷ ((1, 3), 64) ∷ ((0, 3), 65) ∷ [])
    ≡ accepted 0 ∷ accepted 0 ∷ refused 19 4 ∷ refused 19 4 ∷ refused 19 4 ∷ []
shows_inherited_argument = unfold checks in refl

-- 4 gives itself p or its own q: q may be anything from 0 to 3, and then from 2 to 3
shows_own_argument
    : map
    (λ (x : (ℕ × ℕ) × ℕ). judged (inherited x.0.0 x.0.1 stays (skips ∷ goes_with 4 x.1 ∷ sequences 6 7 ∷ []) []))
    (((0, 3), 64) ∷ ((0, 3), 65) ∷ ((2, 3), 65) ∷ ((2, 3), 64) ∷ ((0, 3), 66) ∷ [])
    ≡ accepted 0 ∷ accepted 0 ∷ accepted 0 ∷ refused 19 7 ∷ refused 19 7 ∷ []
shows_own_argument = unfold checks in refl

-- ---- parameters named in bodies
-- bytes 64 and 65 in an assignment, at its command; q has the bounds 0 and 0, so that nothing flows where it may not
shows_assigned_in_scope
    : map (λ (r : ℕ). judged (inherited 0 0 (assigns r 0 ∷ goes_to 3 ∷ sequences 3 4 ∷ []) leaves (constant 1 ∷ []))) (0 ∷ 64 ∷ 65 ∷ [])
    ++ map (λ (r : ℕ). judged (inherited 0 0 stays (assigns r 0 ∷ goes_to 3 ∷ sequences 6 7 ∷ []) (constant 1 ∷ []))) (64 ∷ 65 ∷ [])
    ≡ accepted 0 ∷ accepted 0 ∷ refused 19 3 ∷ accepted 0 ∷ accepted 0 ∷ []
shows_assigned_in_scope = unfold checks in refl

-- in what is assigned, in the first part and in the second of a sum, at the expression
shows_read_in_scope
    : map
    (λ (pq : ℕ × ℕ). judged (inherited 0 0 (assigns 3 2 ∷ goes_to 3 ∷ sequences 3 4 ∷ []) leaves (reads pq.0 ∷ reads pq.1 ∷ adds 0 1 ∷ [])))
    ((64, 0) ∷ (0, 64) ∷ (65, 0) ∷ (0, 65) ∷ (65, 65) ∷ [])
    ≡ accepted 0 ∷ accepted 0 ∷ refused 19 1024 ∷ refused 19 1025 ∷ refused 19 1024 ∷ []
shows_read_in_scope = unfold checks in refl

-- in a condition, and in either branch below it: (if e then r3 := f else r3 := g); goto 3, as the body of 3, which has p alone
abbrev conditional : ℕ → ℕ → ℕ → Numbers
conditional e f g =
    judged
    (assemble
    diamond
    one_of_each
    (state_record 0 0 0 ∷ state_record 0 0 1 ∷ state_with 0 0 2 1 0 1 0 0 ∷ state_record 2 0 7 ∷ [])
    (falls ∷ goes_to 1 ∷ falls ∷ assigns 3 1 ∷ assigns 3 2 ∷ branches 0 3 4 ∷ goes_to 3 ∷ sequences 5 6 ∷ [])
    (reads e ∷ reads f ∷ reads g ∷ []))

shows_condition_in_scope
    : conditional 64 64 64 ∷ conditional 65 64 64 ∷ conditional 64 65 64 ∷ conditional 64 64 65 ∷ conditional 0 65 65 ∷ []
    ≡ accepted 0 ∷ refused 19 1024 ∷ refused 19 1025 ∷ refused 19 1026 ∷ refused 19 1025 ∷ []
shows_condition_in_scope = unfold checks in refl

-- ---- places
-- "at the lowest state, else the lowest node": a count of 3 at state 2, which is higher than command 1, where state 1 reads a parameter
shows_state_before_node
    : map
    (λ (count : ℕ). judged (assemble (1 ∷ []) (register_record 0 0 0 ∷ []) (state_record 0 0 0 ∷ state_record 0 0 3 ∷ state_with 0 0 4 count 0 0 0 0 ∷ []) (falls ∷ assigns 64 0 ∷ goes_to 1 ∷ sequences 1 2 ∷ goes_to 1 ∷ []) (constant 1 ∷ [])))
    (2 ∷ 3 ∷ [])
    ≡ refused 19 1 ∷ refused 19 2 ∷ []
shows_state_before_node = unfold checks in refl

-- the lowest node, commands before expressions: state 1 does r := e and then goes with an argument that is none, by commands in this order
shows_lowest_scope_fault
    : map
    (λ (x : List (List ℕ) × List ℕ). judged (assemble (1 ∷ []) (register_record 0 0 0 ∷ []) (state_record 0 0 0 ∷ state_record 0 0 3 ∷ []) (falls ∷ x.0) (x.1 ∷ [])))
    ((assigns 0 0 ∷ goes_with 1 1 ∷ sequences 1 2 ∷ [], reads 64)
    ∷ (assigns 64 0 ∷ goes_with 1 1 ∷ sequences 1 2 ∷ [], reads 64)
    ∷ (goes_with 1 1 ∷ assigns 64 0 ∷ sequences 2 1 ∷ [], reads 64)
    ∷ (goes_to 1 ∷ assigns 0 0 ∷ sequences 2 1 ∷ [], reads 64)
    ∷ [])
    ≡ refused 19 2 ∷ refused 19 1 ∷ refused 19 1 ∷ refused 19 1024 ∷ []
shows_lowest_scope_fault = unfold checks in refl

-- of all bodies: state 2 has the lower command; the root's body is judged too
shows_lowest_of_bodies
    : map
    judged
    (assemble (1 ∷ []) [] (state_record 0 0 0 ∷ state_record 0 0 2 ∷ state_record 0 0 1 ∷ []) (falls ∷ goes_with 1 1 ∷ goes_with 1 1 ∷ []) []
    ∷ assemble (1 ∷ []) [] (state_record 0 0 2 ∷ state_record 0 0 3 ∷ []) (assigns 64 0 ∷ falls ∷ sequences 0 1 ∷ goes_to 1 ∷ []) (constant 1 ∷ [])
    ∷ [])
    ≡ refused 19 1 ∷ refused 19 0 ∷ []
shows_lowest_of_bodies = unfold checks in refl

-- ---- order
-- Two labels; r0 has label 0, r1 label 1 and r2 is a port. State 1 with this record and label 1 does r := 1; fall. State 2 below it has label 0, and state 3 goes to t with the field a.
abbrev ordered : ℕ → List ℕ → ℕ → ℕ → Numbers
ordered r two t a =
    judged
    (assemble
    chain
    (register_record 0 0 0 ∷ register_record 1 0 0 ∷ register_record 0 1 0 ∷ [])
    (state_record 0 0 0 ∷ state_record 0 1 3 ∷ two ∷ state_record 0 0 5 ∷ [])
    (falls ∷ assigns r 0 ∷ falls ∷ sequences 1 2 ∷ goes_to 2 ∷ goes_with t a ∷ [])
    (constant 1 ∷ []))

-- "It refuses with 19, after 16 and before 9": 8 of a goto to the root, 16, 19 of a state and of a node, 9 and 10, each with all those behind it
shows_order
    : ordered 2 (state_with 1 0 4 3 0 0 0 0) 0 1
    ∷ ordered 2 (state_with 1 0 4 3 0 0 0 0) 3 1
    ∷ ordered 0 (state_with 1 0 4 3 0 0 0 0) 3 1
    ∷ ordered 0 (state_record 1 0 4) 3 1
    ∷ ordered 0 (state_record 1 0 4) 3 0
    ∷ ordered 0 (state_record 1 1 4) 3 0
    ∷ ordered 1 (state_record 1 1 4) 3 0
    ∷ []
    ≡ refused 8 5 ∷ refused 16 1 ∷ refused 19 2 ∷ refused 19 5 ∷ refused 9 2 ∷ refused 10 1 ∷ accepted 0 ∷ []
shows_order = unfold checks in refl

-- a goto with a port that names no sibling is 8's, as is one with an argument that is none
shows_8_before_arguments
    : map
    (λ (a : ℕ). judged (assemble (1 ∷ []) (register_record 0 1 0 ∷ []) (state_record 0 0 0 ∷ state_record 0 0 1 ∷ state_record 0 0 2 ∷ state_record 2 0 3 ∷ state_with 2 0 4 1 0 0 0 0 ∷ []) (falls ∷ goes_with 4 a ∷ falls ∷ goes_to 3 ∷ goes_to 3 ∷ []) []))
    (0 ∷ 1 ∷ [])
    ≡ refused 8 1 ∷ refused 8 1 ∷ []
shows_8_before_arguments = unfold checks in refl
