-- Cases at the boundaries of 01's flow rules: refusals 10 to 12, their places and their order.
use Prim.Native.Nat.{ℕ, ◌-◌}
use mathlib.Core.Path.{◌≡◌, refl}
use mathlib.Core.List.{List, [], ◌∷◌, map}
use Rattle.model.proofs.Opened.{checks, refused, accepted, judged}
use Rattle.model.proofs.Designs.{assemble, one_state, chain, low_and_high, register_record, state_record, skips, assigns, sequences, falls, goes_to, branches, constant, reads, adds}

-- Four labels, of which 1 and 2 cannot be compared, and a register of each: r0 to r3. State 1 with the label given does r := e; goto 1.
abbrev diamond : List ℕ
diamond = 15 ∷ 10 ∷ 12 ∷ 8 ∷ []

abbrev one_of_each : List (List ℕ)
one_of_each = register_record 0 0 0 ∷ register_record 1 0 0 ∷ register_record 2 0 0 ∷ register_record 3 0 0 ∷ []

abbrev assigned : ℕ → ℕ → List ℕ → List ℕ
assigned label r e =
    assemble
    diamond
    one_of_each
    (state_record 0 0 0 ∷ state_record 0 label 3 ∷ [])
    (falls ∷ assigns r 0 ∷ goes_to 1 ∷ sequences 1 2 ∷ [])
    (e ∷ [])

-- "Assign: the context and each register read flow to the label written." In a state of label 0 r1 is written from itself and from below, and not from
-- beside or above
shows_assign_reads
    : map (λ (r : ℕ). judged (assigned 0 1 (reads r))) (0 ∷ 1 ∷ 2 ∷ 3 ∷ []) ≡ accepted 0 ∷ accepted 0 ∷ refused 10 1 ∷ refused 10 1 ∷ []
shows_assign_reads = unfold checks in refl

-- r3 is written from every label
shows_assign_top : map (λ (r : ℕ). judged (assigned 0 3 (reads r))) (0 ∷ 1 ∷ 2 ∷ 3 ∷ []) ≡ accepted 0 ∷ accepted 0 ∷ accepted 0 ∷ accepted 0 ∷ []
shows_assign_top = unfold checks in refl

-- the context has the state's label: in a state of label 1 a constant goes to r1 and r3
shows_assign_state
    : map (λ (r : ℕ). judged (assigned 1 r (constant 1))) (0 ∷ 1 ∷ 2 ∷ 3 ∷ []) ≡ refused 10 1 ∷ accepted 0 ∷ refused 10 1 ∷ accepted 0 ∷ []
shows_assign_state = unfold checks in refl

-- "each register read": r := p + q, the first part or the second; r3 takes r1 + r2
abbrev summed : ℕ → ℕ → ℕ → List ℕ
summed r p q = one_state diamond one_of_each 3 (assigns r 2 ∷ goes_to 1 ∷ sequences 1 2 ∷ []) (reads p ∷ reads q ∷ adds 0 1 ∷ [])

-- one of two registers that are read does not flow to r1; both flow to it; both flow to r3
shows_each_read
    : map judged (summed 1 0 2 ∷ summed 1 2 0 ∷ summed 1 1 0 ∷ summed 3 1 2 ∷ []) ≡ refused 10 1 ∷ refused 10 1 ∷ accepted 0 ∷ accepted 0 ∷ []
shows_each_read = unfold checks in refl

-- (if c then r := 1 else skip); goto 1, and with the branches exchanged, in a state of label 0
abbrev under_if : ℕ → ℕ → List ℕ
under_if c r =
    one_state diamond one_of_each 5 (assigns r 1 ∷ skips ∷ branches 0 1 2 ∷ goes_to 1 ∷ sequences 3 4 ∷ []) (reads c ∷ constant 1 ∷ [])

abbrev under_else : ℕ → ℕ → List ℕ
under_else c r =
    one_state diamond one_of_each 5 (assigns r 1 ∷ skips ∷ branches 0 2 1 ∷ goes_to 1 ∷ sequences 3 4 ∷ []) (reads c ∷ constant 1 ∷ [])

-- "the labels of all registers read in the conditions of the ifs around it", in the then and in the else. The goto behind the if is not inside it.
shows_then
    : map (λ (c : ℕ). judged (under_if c 1)) (0 ∷ 1 ∷ 2 ∷ 3 ∷ []) ≡ accepted 0 ∷ accepted 0 ∷ refused 10 1 ∷ refused 10 1 ∷ []
shows_then = unfold checks in refl

-- the same in the else
shows_else
    : map (λ (c : ℕ). judged (under_else c 1)) (0 ∷ 1 ∷ 2 ∷ 3 ∷ []) ≡ accepted 0 ∷ accepted 0 ∷ refused 10 1 ∷ refused 10 1 ∷ []
shows_else = unfold checks in refl

-- "all registers read", "the ifs around it": r1 := 1 under two ifs, the outer on c + p and the inner on d + q
abbrev under_two : ℕ → ℕ → ℕ → ℕ → List ℕ
under_two c p d q =
    one_state
    diamond
    one_of_each
    7
    (assigns 1 6 ∷ skips ∷ branches 5 1 2 ∷ skips ∷ branches 2 3 4 ∷ goes_to 1 ∷ sequences 5 6 ∷ [])
    (reads c ∷ reads p ∷ adds 0 1 ∷ reads d ∷ reads q ∷ adds 3 4 ∷ constant 1 ∷ [])

-- r2 in each of the four places, and r1 in two
shows_ifs_around
    : map judged (under_two 2 0 0 0 ∷ under_two 0 2 0 0 ∷ under_two 0 0 2 0 ∷ under_two 0 0 0 2 ∷ under_two 0 1 1 0 ∷ [])
    ≡ refused 10 1 ∷ refused 10 1 ∷ refused 10 1 ∷ refused 10 1 ∷ accepted 0 ∷ []
shows_ifs_around = unfold checks in refl

-- under an if on r1, a state of label 2 has both in its context: r1 := 1 and r2 := 1 are refused, r3 := 1 is not
shows_state_and_ifs
    : map
    (λ (r : ℕ).
    judged
    (assemble
    diamond
    one_of_each
    (state_record 0 0 0 ∷ state_record 0 2 5 ∷ [])
    (falls ∷ assigns r 1 ∷ skips ∷ branches 0 1 2 ∷ goes_to 1 ∷ sequences 3 4 ∷ [])
    (reads 1 ∷ constant 1 ∷ [])))
    (1 ∷ 2 ∷ 3 ∷ [])
    ≡ refused 10 1 ∷ refused 10 1 ∷ accepted 0 ∷ []
shows_state_and_ifs = unfold checks in refl

-- "Goto: the context flows to the named state's label." States 1 and 2 with the labels given; state 1: goto 2
abbrev gone : ℕ → ℕ → List ℕ
gone from to =
    assemble diamond [] (state_record 0 0 0 ∷ state_record 0 from 1 ∷ state_record 0 to 2 ∷ []) (falls ∷ goes_to 2 ∷ goes_to 2 ∷ []) []

-- to a label above, to the same one, to the top; and below, beside, and from the top
shows_goto_flow
    : map judged (gone 0 1 ∷ gone 1 1 ∷ gone 1 3 ∷ gone 1 0 ∷ gone 1 2 ∷ gone 3 1 ∷ [])
    ≡ accepted 0 ∷ accepted 0 ∷ accepted 0 ∷ refused 11 1 ∷ refused 11 1 ∷ refused 11 1 ∷ []
shows_goto_flow = unfold checks in refl

-- if c then goto 2 else goto 2, in state 1 of label 0; state 2 has the label given
abbrev gone_under : ℕ → ℕ → List ℕ
gone_under c to =
    assemble
    diamond
    one_of_each
    (state_record 0 0 0 ∷ state_record 0 0 3 ∷ state_record 0 to 4 ∷ [])
    (falls ∷ goes_to 2 ∷ goes_to 2 ∷ branches 0 1 2 ∷ goes_to 2 ∷ [])
    (reads c ∷ [])

-- the condition flows to the named state's label, though not to the own state's; and it does not
shows_goto_under_if
    : map judged (gone_under 1 1 ∷ gone_under 1 3 ∷ gone_under 1 2 ∷ gone_under 1 0 ∷ gone_under 0 0 ∷ [])
    ≡ accepted 0 ∷ accepted 0 ∷ refused 11 1 ∷ refused 11 1 ∷ accepted 0 ∷ []
shows_goto_under_if = unfold checks in refl

-- if c then (goto 1) else (goto 2), where 1 has label 0 and 2 label 1: the branches are judged each by itself
shows_goto_each_branch
    : map
    (λ (x : List ℕ).
    judged
    (assemble
    chain
    low_and_high
    (state_record 0 0 0 ∷ state_record 0 0 3 ∷ state_record 0 1 4 ∷ [])
    (falls ∷ goes_to 1 ∷ goes_to 2 ∷ x ∷ goes_to 2 ∷ [])
    (reads 1 ∷ [])))
    (branches 0 1 2 ∷ branches 0 2 1 ∷ [])
    ≡ refused 11 1 ∷ refused 11 1 ∷ []
shows_goto_each_branch = unfold checks in refl

-- "Fall: the context flows to the own state's label." State 1 with its label: if c then fall else fall; its child, state 2, with its own
abbrev fallen : ℕ → ℕ → ℕ → List ℕ
fallen label c child =
    assemble
    diamond
    one_of_each
    (state_record 0 0 0 ∷ state_record 0 label 3 ∷ state_record 1 child 4 ∷ [])
    (falls ∷ falls ∷ falls ∷ branches 0 1 2 ∷ goes_to 2 ∷ [])
    (reads c ∷ [])

-- the child's label does not matter, and the condition's does
shows_fall_flow
    : map judged (fallen 0 0 0 ∷ fallen 0 0 3 ∷ fallen 1 0 1 ∷ fallen 1 1 1 ∷ fallen 3 1 3 ∷ fallen 0 1 1 ∷ fallen 1 2 3 ∷ fallen 1 3 3 ∷ [])
    ≡ accepted 0 ∷ accepted 0 ∷ accepted 0 ∷ accepted 0 ∷ accepted 0 ∷ refused 12 1 ∷ refused 12 1 ∷ refused 12 1 ∷ []
shows_fall_flow = unfold checks in refl

-- in both parts of a sequence: r0 := r1; r1 := r0, and the other way round
shows_flow_in_sequence
    : map
    (λ (x : List ℕ). judged (one_state chain low_and_high 5 (assigns 0 0 ∷ assigns 1 1 ∷ x ∷ goes_to 1 ∷ sequences 3 4 ∷ []) (reads 1 ∷ reads 0 ∷ [])))
    (sequences 1 2 ∷ sequences 2 1 ∷ [])
    ≡ refused 10 1 ∷ refused 10 1 ∷ []
shows_flow_in_sequence = unfold checks in refl

-- 02, E7: "the first command in the order it is written". State 1 of label 0, with a child: r0 := r1; if r1 then x else y, where the nodes are numbered in
-- several orders: the assignment is read first
shows_read_first
    : map
    (λ (commands : List (List ℕ)).
    judged
    (assemble
    chain
    low_and_high
    (state_record 0 0 0 ∷ state_record 0 0 5 ∷ state_record 1 0 6 ∷ [])
    (falls ∷ commands)
    (reads 1 ∷ reads 1 ∷ [])))
    ((goes_to 1 ∷ falls ∷ assigns 0 0 ∷ branches 1 1 2 ∷ sequences 3 4 ∷ goes_to 2 ∷ [])
    ∷ (falls ∷ goes_to 1 ∷ assigns 0 0 ∷ branches 1 1 2 ∷ sequences 3 4 ∷ goes_to 2 ∷ [])
    ∷ (falls ∷ goes_to 1 ∷ branches 1 2 1 ∷ assigns 0 0 ∷ sequences 4 3 ∷ goes_to 2 ∷ [])
    ∷ (assigns 0 0 ∷ falls ∷ goes_to 1 ∷ branches 1 2 3 ∷ sequences 1 4 ∷ goes_to 2 ∷ [])
    ∷ [])
    ≡ refused 10 3 ∷ refused 10 3 ∷ refused 10 4 ∷ refused 10 1 ∷ []
shows_read_first = unfold checks in refl

-- "an if's first branch before its second": if r1 then goto 1 else goto 1, and the other way round by the numbers; whichever number is lower
shows_first_branch
    : map
    (λ (body : List ℕ). judged (one_state chain low_and_high 3 (goes_to 1 ∷ goes_to 1 ∷ body ∷ []) (reads 1 ∷ [])))
    (branches 0 1 2 ∷ branches 0 2 1 ∷ [])
    ≡ refused 11 1 ∷ refused 11 2 ∷ []
shows_first_branch = unfold checks in refl

-- State 1 of label 0, with a child: an if on r1 of a fall and of r0 := 1; goto 1. 12 is read before 10, though its node is the higher one; then 10 before 12,
-- with the lower node at the fall; and each with the numbers in reading order
shows_12_and_10
    : map
    (λ (commands : List (List ℕ)).
    judged
    (assemble
    chain
    low_and_high
    (state_record 0 0 0 ∷ state_record 0 0 5 ∷ state_record 1 0 6 ∷ [])
    (falls ∷ commands)
    (constant 1 ∷ reads 1 ∷ [])))
    ((assigns 0 0 ∷ falls ∷ goes_to 1 ∷ sequences 1 3 ∷ branches 1 2 4 ∷ goes_to 2 ∷ [])
    ∷ (falls ∷ assigns 0 0 ∷ goes_to 1 ∷ sequences 2 3 ∷ branches 1 4 1 ∷ goes_to 2 ∷ [])
    ∷ (falls ∷ assigns 0 0 ∷ goes_to 1 ∷ sequences 2 3 ∷ branches 1 1 4 ∷ goes_to 2 ∷ [])
    ∷ (assigns 0 0 ∷ falls ∷ goes_to 1 ∷ sequences 1 3 ∷ branches 1 4 2 ∷ goes_to 2 ∷ [])
    ∷ [])
    ≡ refused 12 2 ∷ refused 10 2 ∷ refused 12 1 ∷ refused 10 1 ∷ []
shows_12_and_10 = unfold checks in refl

-- "in the lowest-numbered state": state 2 has the lower command, and state 1 is shown
shows_lowest_state
    : judged
    (assemble
    chain
    []
    (state_record 0 0 0 ∷ state_record 0 1 2 ∷ state_record 0 1 1 ∷ state_record 0 0 3 ∷ [])
    (falls ∷ goes_to 3 ∷ goes_to 3 ∷ goes_to 3 ∷ [])
    [])
    ≡ refused 11 2
shows_lowest_state = unfold checks in refl

-- the last state is judged too
shows_flow_of_last_state
    : judged (assemble chain [] (state_record 0 0 0 ∷ state_record 0 0 1 ∷ state_record 0 1 2 ∷ []) (falls ∷ goes_to 1 ∷ goes_to 1 ∷ []) []) ≡ refused 11 2
shows_flow_of_last_state = unfold checks in refl

-- the root's body is judged too: r0 := r1; fall, and if r1 then fall else fall
shows_flow_of_root
    : map
    (λ (commands : List (List ℕ)).
    judged (assemble chain low_and_high (state_record 0 0 2 ∷ state_record 0 0 3 ∷ []) commands (reads 1 ∷ [])))
    ((assigns 0 0 ∷ falls ∷ sequences 0 1 ∷ goes_to 1 ∷ []) ∷ (falls ∷ falls ∷ branches 0 0 1 ∷ goes_to 1 ∷ []) ∷ [])
    ≡ refused 10 0 ∷ refused 12 0 ∷ []
shows_flow_of_root = unfold checks in refl

-- a register's label is not its number: r0 has label 1 and r1 label 0; r := the other
shows_labels_of_registers
    : map
    (λ (r : ℕ).
    judged
    (one_state chain (register_record 1 0 0 ∷ register_record 0 0 0 ∷ []) 3 (assigns r 0 ∷ goes_to 1 ∷ sequences 1 2 ∷ []) (reads (1 - r) ∷ [])))
    (0 ∷ 1 ∷ [])
    ≡ accepted 0 ∷ refused 10 1 ∷ []
shows_labels_of_registers = unfold checks in refl
