-- Cases at the boundaries of 02's E8, the registers bound to parameters: what a goto binds, what a body does with them, and what a reset writes.
use Prim.Native.Nat.{ℕ}
use mathlib.Core.Path.{◌≡◌, refl}
use mathlib.Core.List.{List, [], ◌∷◌, ◌++◌, map}
use lib.ListN.{replicate}
use Rattle.model.specs.Image.{design_of}
use Rattle.model.specs.Machine.{cycle}
use Rattle.model.specs.Calls.{reset, run}
use Rattle.model.proofs.Opened.{everything, accepted, judged, told, lent_bound, areas_bound}
use Rattle.model.proofs.Designs.{assemble, register_record, width_record, state_record, state_with, assigns, sequences, falls, goes_to, goes_with, goes_with_both, branches, constant, reads, adds, subtracts}

-- ---- what a goto binds
-- States 1, 2 and 5 below the root, 3 and 4 below 2. States 2 and 4 have these counts, and state 5 two; states 1, 2 and 4 have these bodies.
abbrev tree : ℕ → ℕ → List ℕ → List ℕ → List ℕ → List ℕ
tree two four one_does two_does four_does =
    assemble
    (1 ∷ [])
    (replicate 4 (register_record 0 0 0))
    (state_record 0 0 0
    ∷ state_record 0 0 1
    ∷ state_with 0 0 2 two 0 0 0 0
    ∷ state_record 2 0 3
    ∷ state_with 2 0 4 four 0 0 0 0
    ∷ state_with 0 0 5 2 0 0 0 0
    ∷ [])
    (falls ∷ one_does ∷ two_does ∷ goes_to 3 ∷ four_does ∷ goes_to 1 ∷ [])
    []

-- the bindings after a cycle of such a design from these targets; before it byte i behind the targets held 20 + i
abbrev after : List ℕ → List ℕ → List ℕ
after image targets =
    (cycle (design_of image) (areas_bound (replicate 4 0) targets (20 ∷ 21 ∷ 22 ∷ 23 ∷ 24 ∷ 25 ∷ 26 ∷ 27 ∷ 28 ∷ 29 ∷ 30 ∷ 31 ∷ []))).after.bindings

abbrev in_one : List ℕ → List ℕ
in_one image = after image (1 ∷ 1 ∷ 3 ∷ 3 ∷ 4 ∷ 5 ∷ [])

abbrev in_two : List ℕ → List ℕ
in_two image = after image (2 ∷ 1 ∷ 3 ∷ 3 ∷ 4 ∷ 5 ∷ [])

abbrev in_four : List ℕ → List ℕ
in_four image = after image (2 ∷ 1 ∷ 4 ∷ 3 ∷ 4 ∷ 5 ∷ [])

-- those bindings with others for states 2, 4 and 5
abbrev bindings : ℕ → ℕ → ℕ → ℕ → ℕ → List ℕ
bindings first second third fifth sixth = 20 ∷ 21 ∷ 22 ∷ 23 ∷ first ∷ second ∷ 26 ∷ 27 ∷ third ∷ 29 ∷ fifth ∷ sixth ∷ []

-- these designs are accepted
shows_trees
    : map
    judged
    (tree 1 1 (goes_with 2 3) (goes_to 1) (goes_to 3)
    ∷ tree 2 0 (goes_with_both 2 3 1) (goes_with_both 2 65 64) (goes_to 3)
    ∷ tree 1 1 (goes_with_both 5 3 1) falls (goes_with 4 64)
    ∷ [])
    ≡ replicate 3 (accepted 0)
shows_trees = unfold everything in refl

-- "set only by a goto's arguments", "two bytes per state, in state order": with one parameter the first byte alone, with two both, the first one first, and with none
-- no byte; and of the last state. Those of the states below the named one stay, and so do all others.
shows_goto_binds
    : in_one (tree 1 1 (goes_with 2 3) (goes_to 1) (goes_to 3))
    ∷ in_one (tree 2 0 (goes_with_both 2 3 1) (goes_to 1) (goes_to 3))
    ∷ in_one (tree 0 1 (goes_to 2) (goes_to 1) (goes_to 3))
    ∷ in_one (tree 1 1 (goes_with_both 5 3 1) (goes_to 1) (goes_to 3))
    ∷ in_two (tree 1 1 (goes_to 2) (goes_to 1) (goes_to 3))
    ∷ []
    ≡ bindings 3 25 28 30 31
    ∷ bindings 3 1 28 30 31
    ∷ bindings 24 25 28 30 31
    ∷ bindings 24 25 28 3 1
    ∷ bindings 24 25 28 30 31
    ∷ []
shows_goto_binds = unfold everything in refl

-- "all read before any is set": exchanged, the first to both, the second to both; by a goto of the state to itself
shows_read_before_set
    : map
    (λ (x : List ℕ). in_two (tree 2 0 (goes_to 1) x (goes_to 3)))
    (goes_with_both 2 64 65 ∷ goes_with_both 2 65 64 ∷ goes_with_both 2 64 64 ∷ goes_with_both 2 65 65 ∷ goes_with_both 2 3 64 ∷ goes_with_both 2 65 3 ∷ [])
    ≡ bindings 24 25 28 30 31
    ∷ bindings 25 24 28 30 31
    ∷ bindings 24 24 28 30 31
    ∷ bindings 25 25 28 30 31
    ∷ bindings 3 24 28 30 31
    ∷ bindings 25 3 28 30 31
    ∷ []
shows_read_before_set = unfold everything in refl

-- from the state that has it to one beside it: 2 gives its first to both of 5
shows_binds_beside
    : map (λ (x : List ℕ). in_two (tree 2 0 (goes_to 1) x (goes_to 3))) (goes_with_both 5 64 64 ∷ goes_with_both 5 65 2 ∷ [])
    ≡ bindings 24 25 28 24 24 ∷ bindings 24 25 28 25 2 ∷ []
shows_binds_beside = unfold everything in refl

-- "own ones last": 4 has the parameter of 2 first and its own second
shows_binds_inherited
    : map (λ (x : List ℕ). in_four (tree 1 1 (goes_to 1) falls x)) (goes_with 4 64 ∷ goes_with 4 65 ∷ goes_with 4 2 ∷ [])
    ≡ bindings 24 25 24 30 31 ∷ bindings 24 25 28 30 31 ∷ bindings 24 25 2 30 31 ∷ []
shows_binds_inherited = unfold everything in refl

-- the targets are as before: a goto to 2 sets its descendants to default children, and keeps what is bound to them
shows_targets_cleared
    : cycle (design_of (tree 1 1 (goes_with 2 3) (goes_to 1) (goes_to 3))) (areas_bound (replicate 4 0) (1 ∷ 1 ∷ 4 ∷ 3 ∷ 4 ∷ 5 ∷ []) (replicate 12 2))
    ≡ record {
      after = areas_bound (replicate 4 0) (2 ∷ 1 ∷ 3 ∷ 3 ∷ 4 ∷ 5 ∷ []) (2 ∷ 2 ∷ 2 ∷ 2 ∷ 3 ∷ replicate 7 2);
      walk = 0 ∷ 1 ∷ [];
      ran_with = replicate 12 2;
    }
shows_targets_cleared = unfold everything in refl

-- ---- what a body does
-- r0 and r3 have 32 bits, r1 has 2 and r2 has 10. State 2 with two parameters has the body whose commands follow; state 1 goes to it with r1 and r3.
abbrev working : ℕ → List (List ℕ) → List (List ℕ) → List ℕ
working body commands expressions =
    assemble
    (1 ∷ [])
    (register_record 0 0 0 ∷ width_record 0 0 0 2 ∷ width_record 0 0 0 10 ∷ register_record 0 0 0 ∷ [])
    (state_record 0 0 0 ∷ state_record 0 0 1 ∷ state_with 0 0 body 2 0 0 0 0 ∷ [])
    (falls ∷ goes_with_both 2 1 3 ∷ commands)
    expressions

-- the registers after a cycle of state 2 with these bound, from 1, 2, 3 and 4,000
abbrev worked : List ℕ → ℕ × ℕ → List ℕ
worked image bound =
    (cycle (design_of image) (areas_bound (1 ∷ 2 ∷ 3 ∷ 4000 ∷ []) (2 ∷ 1 ∷ 2 ∷ []) (0 ∷ 0 ∷ 0 ∷ 0 ∷ bound.0 ∷ bound.1 ∷ []))).after.registers

-- p := q + 5; goto 1
abbrev adding : List ℕ
adding = working 4 (assigns 64 2 ∷ goes_to 1 ∷ sequences 2 3 ∷ []) (reads 65 ∷ constant 5 ∷ adds 0 1 ∷ [])

-- the register bound to q is read and the one bound to p is written, cut by its own width: to 2 bits, to 10, to 32; q may be p
shows_parameters_work
    : map (worked adding) ((1, 3) ∷ (2, 3) ∷ (0, 3) ∷ (3, 3) ∷ (3, 1) ∷ (1, 1) ∷ (0, 2) ∷ [])
    ≡ (1 ∷ 1 ∷ 3 ∷ 4000 ∷ [])
    ∷ (1 ∷ 2 ∷ 933 ∷ 4000 ∷ [])
    ∷ (4005 ∷ 2 ∷ 3 ∷ 4000 ∷ [])
    ∷ (1 ∷ 2 ∷ 3 ∷ 4005 ∷ [])
    ∷ (1 ∷ 2 ∷ 3 ∷ 7 ∷ [])
    ∷ (1 ∷ 3 ∷ 3 ∷ 4000 ∷ [])
    ∷ (8 ∷ 2 ∷ 3 ∷ 4000 ∷ [])
    ∷ []
shows_parameters_work = unfold everything in refl

-- an assignment shows at the next read, by the parameter and by the register: p := 7; r0 := p + q; goto 1
shows_parameter_read_next
    : map
    (worked (working 6 (assigns 64 0 ∷ assigns 0 3 ∷ sequences 2 3 ∷ goes_to 1 ∷ sequences 4 5 ∷ []) (constant 7 ∷ reads 64 ∷ reads 65 ∷ adds 1 2 ∷ [])))
    ((3, 2) ∷ (3, 3) ∷ (1, 3) ∷ [])
    ≡ (10 ∷ 2 ∷ 3 ∷ 7 ∷ []) ∷ (14 ∷ 2 ∷ 3 ∷ 7 ∷ []) ∷ (4003 ∷ 3 ∷ 3 ∷ 4000 ∷ []) ∷ []
shows_parameter_read_next = unfold everything in refl

-- in a condition, and in both branches: (if p then q := 7 else p := 9); goto 1, with r1, which is 2 and then 0, and r3; 9 is cut to 2 bits
shows_parameter_condition
    : map
    (λ (values : List ℕ).
    (cycle
    (design_of (working 6 (assigns 65 1 ∷ assigns 64 2 ∷ branches 0 2 3 ∷ goes_to 1 ∷ sequences 4 5 ∷ []) (reads 64 ∷ constant 7 ∷ constant 9 ∷ [])))
    (areas_bound values (2 ∷ 1 ∷ 2 ∷ []) (0 ∷ 0 ∷ 0 ∷ 0 ∷ 1 ∷ 3 ∷ []))
    ).after.registers)
    ((1 ∷ 2 ∷ 3 ∷ 4 ∷ []) ∷ (1 ∷ 0 ∷ 3 ∷ 4 ∷ []) ∷ [])
    ≡ (1 ∷ 2 ∷ 3 ∷ 7 ∷ []) ∷ (1 ∷ 1 ∷ 3 ∷ 4 ∷ []) ∷ []
shows_parameter_condition = unfold everything in refl

-- Below a fall: state 2 has p and does p := 7; fall. State 4 below it has q of its own and does r0 := p - q; goto 3.
abbrev below : List ℕ
below =
    assemble
    (1 ∷ [])
    (replicate 4 (register_record 0 0 0))
    (state_record 0 0 0 ∷ state_record 0 0 1 ∷ state_with 0 0 4 1 0 0 0 0 ∷ state_record 2 0 5 ∷ state_with 2 0 8 1 0 0 0 0 ∷ [])
    (falls ∷ goes_to 1 ∷ assigns 64 0 ∷ falls ∷ sequences 2 3 ∷ goes_to 3 ∷ assigns 0 3 ∷ goes_to 3 ∷ sequences 6 7 ∷ [])
    (constant 7 ∷ reads 64 ∷ reads 65 ∷ subtracts 1 2 ∷ [])

shows_parameters_below
    : judged below ≡ accepted 0
shows_parameters_below = unfold everything in refl

-- p is bound by the byte of state 2 and q by that of state 4; the other bytes are not theirs
shows_own_last
    : (cycle (design_of below) (areas_bound (1 ∷ 2 ∷ 3 ∷ 4 ∷ []) (2 ∷ 1 ∷ 4 ∷ 3 ∷ 4 ∷ []) (3 ∷ 3 ∷ 3 ∷ 3 ∷ 1 ∷ 3 ∷ 3 ∷ 3 ∷ 2 ∷ 3 ∷ []))).after.registers ≡ 4 ∷ 7 ∷ 3 ∷ 4 ∷ []
shows_own_last = unfold everything in refl

-- ---- areas
-- "0 at reset": each of two bytes a state, whatever they held
shows_reset_unbound
    : told (reset adding (lent_bound (replicate 16 9) (replicate 3 9) (replicate 6 9))) ≡ (accepted 0, lent_bound (replicate 16 0) (1 ∷ 1 ∷ 2 ∷ []) (replicate 6 0))
shows_reset_unbound = unfold everything in refl

-- "After the targets their area gains two bytes per state": what a run of one cycle and of two leaves, from reset; p := q + 5, with r1 and r3
shows_run_binds
    : map (told) (run adding (lent_bound (replicate 16 0) (1 ∷ 1 ∷ 2 ∷ []) (replicate 6 0)) 1 ∷ run adding (lent_bound (replicate 16 0) (1 ∷ 1 ∷ 2 ∷ []) (replicate 6 0)) 2 ∷ [])
    ≡ (accepted 1, lent_bound (replicate 16 0) (2 ∷ 1 ∷ 2 ∷ []) (0 ∷ 0 ∷ 0 ∷ 0 ∷ 1 ∷ 3 ∷ []))
    ∷ (accepted 2, lent_bound (replicate 4 0 ++ (1 ∷ replicate 11 0)) (1 ∷ 1 ∷ 2 ∷ []) (0 ∷ 0 ∷ 0 ∷ 0 ∷ 1 ∷ 3 ∷ []))
    ∷ []
shows_run_binds = unfold everything in refl
