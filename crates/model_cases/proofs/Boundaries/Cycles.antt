-- Cases at the boundaries of 01's section 'A cycle': values, execution, reset, targets, a fall and a goto.
use Prim.Native.Nat.{ℕ, zero, suc}
use mathlib.Core.Path.{◌≡◌, refl}
use mathlib.Core.List.{List, [], ◌∷◌, ◌++◌, map}
use lib.ListN.{replicate}
use Rattle.model.specs.declared.Ending.TheVariants.{Goto}
use Rattle.model.specs.declared.Outcome.TheVariants.{Transferred}
use Rattle.model.specs.Answers.{Numbers, numbers_of}
use Rattle.model.specs.Kinds.{add, subtract, equal, less}
use Rattle.model.specs.Trees.{sequence, goto}
use Rattle.model.specs.Values.{apply}
use Rattle.model.specs.Machine.{exec}
use Rattle.model.specs.Calls.{reset, run, run_answer}
use Rattle.model.specs.Listing.{bytes_of_text, listing}
use Rattle.model.proofs.Opened.{everything, accepted, refused, told, lent, lent_bound}
use Rattle.model.proofs.Designs.{lease, two_groups, assemble, one_state, node, register_record, state_record, skips, assigns, sequences, falls, goes_to, branches, constant, reads}

-- "Values are 32 bits; adding and subtracting wrap": the largest value is reached, and the next one is 0
shows_wrap : apply add 4294967294 1 ∷ apply add 4294967295 1 ∷ apply subtract 7 7 ∷ [] ≡ 4294967295 ∷ 0 ∷ 0 ∷ []
shows_wrap = unfold everything in refl

-- "Equal and less (unsigned) give 1 or 0": of all 32 bits, and equal in neither direction
shows_compared
    : apply equal 8 7 ∷ apply equal 2147483649 1 ∷ apply equal 65537 1 ∷ apply less 65536 1 ∷ apply less 2147483648 1 ∷ apply less 1 65536 ∷ []
    ≡ 0 ∷ 0 ∷ 0 ∷ 0 ∷ 0 ∷ 1 ∷ []
shows_compared = unfold everything in refl

-- the expression that reads registers 7 and 8 and applies the operation of a kind, and the assignment of it to a register
abbrev operation : ℕ → ℕ → List (List ℕ)
operation first kind = reads 7 ∷ reads 8 ∷ node kind 0 first (suc first) 0 ∷ []

-- Registers 0 to 6 take the sum, difference, and, or, xor, equal and less of register 7 (hexadecimal AAAAAAAA) and register 8 (CCCCCCCC).
abbrev operations : List ℕ
operations =
    one_state
    (1 ∷ [])
    (replicate 7 (register_record 0 0 9) ++ (register_record 0 0 2863311530 ∷ register_record 0 0 3435973836 ∷ []))
    15
    (assigns 0 2
    ∷ assigns 1 5
    ∷ sequences 1 2
    ∷ assigns 2 8
    ∷ sequences 3 4
    ∷ assigns 3 11
    ∷ sequences 5 6
    ∷ assigns 4 14
    ∷ sequences 7 8
    ∷ assigns 5 17
    ∷ sequences 9 10
    ∷ assigns 6 20
    ∷ sequences 11 12
    ∷ goes_to 1
    ∷ sequences 13 14
    ∷ [])
    (operation 0 2 ++ operation 3 3 ++ operation 6 4 ++ operation 9 5 ++ operation 12 6 ++ operation 15 7 ++ operation 18 8)

-- "add, subtract, and, or, xor, equal, less", each of the first part and the second, in 32 bits
shows_operations
    : listing (1 ∷ 0 ∷ operations)
    ≡ bytes_of_text "cycle;walk;registers\n1;0 1;2004318070 3722304990 2290649224 4008636142 1717986918 0 1 2863311530 3435973836\n"
shows_operations = unfold everything in refl

-- (r0 := v; skip); (if r0 then r1 := 7 else r2 := 9); goto 1
abbrev either_way : ℕ → List ℕ
either_way v =
    one_state
    (1 ∷ [])
    (replicate 3 (register_record 0 0 0))
    9
    (assigns 0 0 ∷ skips ∷ sequences 1 2 ∷ assigns 1 2 ∷ assigns 2 3 ∷ branches 1 4 5 ∷ sequences 3 6 ∷ goes_to 1 ∷ sequences 7 8 ∷ [])
    (constant v ∷ reads 0 ∷ constant 7 ∷ constant 9 ∷ [])

-- "An if takes its first branch when the value is not 0": any bit of the 32 is enough, and only the branch taken assigns
shows_if_top_bit : listing (1 ∷ 0 ∷ either_way 2147483648) ≡ bytes_of_text "cycle;walk;registers\n1;0 1;2147483648 7 0\n"
shows_if_top_bit = unfold everything in refl

shows_if_2 : listing (1 ∷ 0 ∷ either_way 2) ≡ bytes_of_text "cycle;walk;registers\n1;0 1;2 7 0\n"
shows_if_2 = unfold everything in refl

shows_if_0 : listing (1 ∷ 0 ∷ either_way 0) ≡ bytes_of_text "cycle;walk;registers\n1;0 1;0 0 9\n"
shows_if_0 = unfold everything in refl

-- "A body ends by a goto, with the state it names": where the first part of a sequence ended the body, the second does not run
shows_body_ends : (exec [] [] (sequence 2 (goto 0 3 5 6) (goto 1 4 7 8))).outcome ≡ Transferred (Goto 3 5 6)
shows_body_ends = unfold everything in refl

-- "registers, 4 bytes each", little-endian: r0 = 16777216 is read, and 16777215 is written; r1 keeps its four bytes
shows_borrow
    : told (run lease (lent (0 ∷ 0 ∷ 0 ∷ 1 ∷ 5 ∷ 6 ∷ 7 ∷ 8 ∷ []) (2 ∷ 1 ∷ 4 ∷ 3 ∷ 4 ∷ [])) 1)
    ≡ (accepted 1, lent (255 ∷ 255 ∷ 255 ∷ 0 ∷ 5 ∷ 6 ∷ 7 ∷ 8 ∷ []) (2 ∷ 1 ∷ 3 ∷ 3 ∷ 4 ∷ []))
shows_borrow = unfold everything in refl

-- "Reset writes the reset values", all 32 bits, of a port and of an inner register
shows_reset
    : told (reset (one_state (1 ∷ []) (register_record 0 1 4275878552 ∷ register_record 0 0 67305985 ∷ []) 1 (goes_to 1 ∷ []) []) (lent_bound (replicate 8 9) (replicate 2 9) (replicate 4 9)))
    ≡ (accepted 0, lent (152 ∷ 186 ∷ 220 ∷ 254 ∷ 1 ∷ 2 ∷ 3 ∷ 4 ∷ []) (1 ∷ 1 ∷ []))
shows_reset = unfold everything in refl

-- what a run of 0 answers to targets of the lease design, whose root has the children 1 and 2, and whose state 2 has 3 and 4
abbrev judged_targets : List ℕ → Numbers
judged_targets targets = numbers_of (run_answer lease (lent (replicate 8 9) targets) 0)

-- "A target is a child of its state": any child, the default one or not
shows_sound
    : map judged_targets ((1 ∷ 1 ∷ 3 ∷ 3 ∷ 4 ∷ []) ∷ (2 ∷ 1 ∷ 3 ∷ 3 ∷ 4 ∷ []) ∷ (1 ∷ 1 ∷ 4 ∷ 3 ∷ 4 ∷ []) ∷ (2 ∷ 1 ∷ 4 ∷ 3 ∷ 4 ∷ []) ∷ [])
    ≡ accepted 0 ∷ accepted 0 ∷ accepted 0 ∷ accepted 0 ∷ []
shows_sound = unfold everything in refl

-- and neither the state itself, nor a grandchild, nor a number that no state has
shows_unsound_root
    : map judged_targets ((0 ∷ 1 ∷ 3 ∷ 3 ∷ 4 ∷ []) ∷ (3 ∷ 1 ∷ 3 ∷ 3 ∷ 4 ∷ []) ∷ (5 ∷ 1 ∷ 3 ∷ 3 ∷ 4 ∷ []) ∷ (255 ∷ 1 ∷ 3 ∷ 3 ∷ 4 ∷ []) ∷ [])
    ≡ refused 14 0 ∷ refused 14 0 ∷ refused 14 0 ∷ refused 14 0 ∷ []
shows_unsound_root = unfold everything in refl

-- nor the state itself where it has children, nor its sibling, nor its parent
shows_unsound_parent
    : map judged_targets ((1 ∷ 1 ∷ 2 ∷ 3 ∷ 4 ∷ []) ∷ (1 ∷ 1 ∷ 1 ∷ 3 ∷ 4 ∷ []) ∷ (1 ∷ 1 ∷ 0 ∷ 3 ∷ 4 ∷ []) ∷ [])
    ≡ refused 14 2 ∷ refused 14 2 ∷ refused 14 2 ∷ []
shows_unsound_parent = unfold everything in refl

-- "a childless state's is its own number": not a sibling's, not its parent's, and the last state is judged too
shows_unsound_childless
    : map judged_targets ((1 ∷ 2 ∷ 3 ∷ 3 ∷ 4 ∷ []) ∷ (1 ∷ 0 ∷ 3 ∷ 3 ∷ 4 ∷ []) ∷ (1 ∷ 1 ∷ 3 ∷ 2 ∷ 4 ∷ []) ∷ (1 ∷ 1 ∷ 3 ∷ 3 ∷ 3 ∷ []) ∷ (1 ∷ 1 ∷ 3 ∷ 3 ∷ 5 ∷ []) ∷ [])
    ≡ refused 14 1 ∷ refused 14 1 ∷ refused 14 3 ∷ refused 14 4 ∷ refused 14 4 ∷ []
shows_unsound_childless = unfold everything in refl

-- n states, one below the other, from a number on: each is the child of the one before it, and has the command of its own number
abbrev below : ℕ → ℕ → List (List ℕ)
below s zero = []
below s (suc n) = state_record s 0 (suc s) ∷ below (suc s) n

-- 64 states, each the child of the one before it; the last goes to itself
abbrev deepest : List ℕ
deepest = assemble (1 ∷ []) [] (state_record 0 0 0 ∷ below 0 63) (replicate 63 falls ++ (goes_to 63 ∷ [])) []

-- "A fall runs the target's command": so often that in one cycle all 64 commands run
shows_deepest_walk
    : listing (1 ∷ 0 ∷ deepest)
    ≡ bytes_of_text "cycle;walk;registers\n1;0 1 2 3 4 5 6 7 8 9 10 11 12 13 14 15 16 17 18 19 20 21 22 23 24 25 26 27 28 29 30 31 32 33 34 35 36 37 38 39 40 41 42 43 44 45 46 47 48 49 50 51 52 53 54 55 56 57 58 59 60 61 62 63;\n"
shows_deepest_walk = unfold everything in refl

-- State 1 goes to 2. The states 2 to 8 stand one below the other, and 9 beside 8 and 10 beside 2 have no children.
abbrev stairs : List ℕ
stairs =
    assemble
    (1 ∷ [])
    []
    (state_record 0 0 0 ∷ state_record 0 0 1 ∷ state_record 0 0 2 ∷ (below 2 6 ++ (state_record 7 0 9 ∷ state_record 0 0 10 ∷ [])))
    (falls ∷ goes_to 2 ∷ (replicate 6 falls ++ (goes_to 9 ∷ goes_to 8 ∷ goes_to 1 ∷ [])))
    []

-- "sets s and all its descendants to default children": down to state 7, the sixth from state 2
shows_goto_clears_deep
    : told (run stairs (lent [] (1 ∷ 1 ∷ 3 ∷ 4 ∷ 5 ∷ 6 ∷ 7 ∷ 9 ∷ 8 ∷ 9 ∷ 10 ∷ [])) 1)
    ≡ (accepted 1, lent [] (2 ∷ 1 ∷ 3 ∷ 4 ∷ 5 ∷ 6 ∷ 7 ∷ 8 ∷ 8 ∷ 9 ∷ 10 ∷ []))
shows_goto_clears_deep = unfold everything in refl

-- "s and all its descendants", and no other state, though its number lies between: 2 has the children 4 and 5, and 3 keeps its choice 7
shows_goto_keeps_others
    : told (run two_groups (lent (replicate 4 9 ++ (replicate 4 0 ++ replicate 8 9)) (1 ∷ 1 ∷ 5 ∷ 7 ∷ 4 ∷ 5 ∷ 6 ∷ 7 ∷ [])) 1)
    ≡ (accepted 1, lent (3 ∷ 0 ∷ 0 ∷ 0 ∷ 1 ∷ 0 ∷ 0 ∷ 0 ∷ replicate 8 9) (2 ∷ 1 ∷ 4 ∷ 7 ∷ 4 ∷ 5 ∷ 6 ∷ 7 ∷ []))
shows_goto_keeps_others = unfold everything in refl
