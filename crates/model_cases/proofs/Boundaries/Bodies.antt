-- Cases at the boundaries of 01's section 'Shape and flow', its first paragraph and the labels of children: refusals 8 and 9, their places and their order.
use Prim.Native.Nat.{ℕ}
use mathlib.Core.Path.{◌≡◌, refl}
use mathlib.Core.Bool.{false, true}
use mathlib.Core.List.{List, [], ◌∷◌, map}
use Rattle.model.specs.Trees.{skip, assign, sequence, fall, goto, branch, Expr}
use Rattle.model.specs.Shape.{transfers}
use Rattle.model.proofs.Opened.{checks, refused, accepted, judged}
use Rattle.model.proofs.Designs.{assemble, one_state, chain, low_and_high, register_record, state_record, skips, assigns, sequences, falls, goes_to, branches, constant}

-- "A command transfers if it is a fall or goto"
shows_transfers
    : map transfers (fall 0 ∷ goto 0 1 0 0 ∷ skip 0 ∷ assign 0 0 (Expr.constant 1) ∷ []) ≡ true ∷ true ∷ false ∷ false ∷ []
shows_transfers = unfold checks in refl

-- "a sequence whose second part transfers"
shows_sequence_transfers
    : map transfers (sequence 2 (skip 0) (fall 1) ∷ sequence 2 (fall 0) (skip 1) ∷ sequence 2 (skip 0) (skip 1) ∷ []) ≡ true ∷ false ∷ false ∷ []
shows_sequence_transfers = unfold checks in refl

-- "or an if whose branches both do": both, one or none
shows_if_transfers
    : map
    transfers
    (branch 2 (Expr.constant 1) (fall 0) (fall 1)
    ∷ branch 2 (Expr.constant 1) (fall 0) (skip 1)
    ∷ branch 2 (Expr.constant 1) (skip 0) (fall 1)
    ∷ branch 2 (Expr.constant 1) (skip 0) (skip 1)
    ∷ [])
    ≡ true ∷ false ∷ false ∷ false ∷ []
shows_if_transfers = unfold checks in refl

-- state 1 has the body numbered, over these commands and one constant; there is one register
abbrev shaped : ℕ → List (List ℕ) → List ℕ
shaped body commands = one_state (1 ∷ []) (register_record 0 0 0 ∷ []) body commands (constant 1 ∷ [])

-- "Every state's command transfers", "charged to its command": state 1 has command 3, and then state 2 the one that does not transfer
shows_state_transfers
    : map
    judged
    (one_state (1 ∷ []) [] 3 (skips ∷ skips ∷ sequences 1 2 ∷ []) []
    ∷ assemble (1 ∷ []) [] (state_record 0 0 0 ∷ state_record 0 0 2 ∷ state_record 0 0 1 ∷ []) (falls ∷ skips ∷ goes_to 1 ∷ []) []
    ∷ assemble (1 ∷ []) [] (state_record 0 0 1 ∷ state_record 0 0 0 ∷ []) (goes_to 1 ∷ skips ∷ []) []
    ∷ shaped 1 (assigns 0 0 ∷ [])
    ∷ [])
    ≡ refused 8 3 ∷ refused 8 1 ∷ refused 8 1 ∷ refused 8 1 ∷ []
shows_state_transfers = unfold checks in refl

-- "The first part of a sequence never does (charged to the sequence)": a goto, a fall, an if with two gotos; and in a part of a sequence, first or second
shows_first_part
    : map
    judged
    (shaped 5 (goes_to 1 ∷ goes_to 1 ∷ branches 0 1 2 ∷ goes_to 1 ∷ sequences 3 4 ∷ [])
    ∷ one_state (1 ∷ []) [] 5 (goes_to 1 ∷ skips ∷ sequences 1 2 ∷ goes_to 1 ∷ sequences 3 4 ∷ []) []
    ∷ one_state (1 ∷ []) [] 5 (goes_to 1 ∷ goes_to 1 ∷ sequences 1 2 ∷ skips ∷ sequences 4 3 ∷ []) []
    ∷ one_state (1 ∷ []) [] 5 (skips ∷ skips ∷ sequences 1 2 ∷ goes_to 1 ∷ sequences 3 4 ∷ []) []
    ∷ [])
    ≡ refused 8 5 ∷ refused 8 3 ∷ refused 8 3 ∷ accepted 0 ∷ []
shows_first_part = unfold checks in refl

-- "An if has two transferring branches or none.": then alone and else alone, as a body and before a goto; both, none; and an if in the then and in the else
-- of another
shows_branches
    : map
    judged
    (shaped 3 (goes_to 1 ∷ skips ∷ branches 0 1 2 ∷ [])
    ∷ shaped 3 (skips ∷ goes_to 1 ∷ branches 0 1 2 ∷ [])
    ∷ shaped 5 (goes_to 1 ∷ skips ∷ branches 0 1 2 ∷ goes_to 1 ∷ sequences 3 4 ∷ [])
    ∷ shaped 5 (skips ∷ goes_to 1 ∷ branches 0 1 2 ∷ goes_to 1 ∷ sequences 3 4 ∷ [])
    ∷ shaped 3 (goes_to 1 ∷ goes_to 1 ∷ branches 0 1 2 ∷ [])
    ∷ shaped 5 (skips ∷ skips ∷ branches 0 1 2 ∷ goes_to 1 ∷ sequences 3 4 ∷ [])
    ∷ one_state (1 ∷ []) [] 5 (goes_to 1 ∷ skips ∷ branches 0 1 2 ∷ goes_to 1 ∷ branches 1 3 4 ∷ []) (constant 1 ∷ constant 1 ∷ [])
    ∷ one_state (1 ∷ []) [] 5 (goes_to 1 ∷ skips ∷ branches 0 1 2 ∷ goes_to 1 ∷ branches 1 4 3 ∷ []) (constant 1 ∷ constant 1 ∷ [])
    ∷ [])
    ≡ refused 8 3 ∷ refused 8 3 ∷ refused 8 3 ∷ refused 8 3 ∷ accepted 0 ∷ accepted 0 ∷ refused 8 3 ∷ refused 8 3 ∷ []
shows_branches = unfold checks in refl

-- "A fall needs a child.": state 1 has none, first as its body and then behind a skip; and then state 2 is its child
shows_fall_child
    : map
    judged
    (one_state (1 ∷ []) [] 1 (falls ∷ []) []
    ∷ one_state (1 ∷ []) [] 3 (skips ∷ falls ∷ sequences 1 2 ∷ []) []
    ∷ assemble (1 ∷ []) [] (state_record 0 0 0 ∷ state_record 0 0 1 ∷ state_record 1 0 2 ∷ []) (falls ∷ falls ∷ goes_to 2 ∷ []) []
    ∷ [])
    ≡ refused 8 1 ∷ refused 8 2 ∷ accepted 0 ∷ []
shows_fall_child = unfold checks in refl

-- States 1 and 2 below the root, 3 and 4 below 1, 5 below 2. State 3 goes to t.
abbrev third_goes_to : ℕ → List ℕ
third_goes_to t =
    assemble
    (1 ∷ [])
    []
    (state_record 0 0 0 ∷ state_record 0 0 1 ∷ state_record 0 0 2 ∷ state_record 1 0 3 ∷ state_record 1 0 4 ∷ state_record 2 0 5 ∷ [])
    (falls ∷ falls ∷ falls ∷ goes_to t ∷ goes_to 3 ∷ goes_to 5 ∷ [])
    []

-- "A goto names a sibling or the state itself": not the root, the parent, the parent's sibling or its child
shows_goto_names
    : map (λ (t : ℕ). judged (third_goes_to t)) (0 ∷ 1 ∷ 2 ∷ 3 ∷ 4 ∷ 5 ∷ [])
    ≡ refused 8 3 ∷ refused 8 3 ∷ refused 8 3 ∷ accepted 0 ∷ accepted 0 ∷ refused 8 3 ∷ []
shows_goto_names = unfold checks in refl

-- nor a child; "the root holds no goto": nor to itself, nor inside an if; "the root is nobody's sibling"
shows_root_holds_no_goto
    : map
    judged
    (assemble (1 ∷ []) [] (state_record 0 0 0 ∷ state_record 0 0 1 ∷ state_record 1 0 2 ∷ []) (falls ∷ goes_to 2 ∷ goes_to 2 ∷ []) []
    ∷ assemble (1 ∷ []) [] (state_record 0 0 0 ∷ state_record 0 0 1 ∷ []) (goes_to 0 ∷ goes_to 1 ∷ []) []
    ∷ assemble (1 ∷ []) [] (state_record 0 0 2 ∷ state_record 0 0 3 ∷ []) (falls ∷ goes_to 1 ∷ branches 0 0 1 ∷ goes_to 1 ∷ []) (constant 1 ∷ [])
    ∷ one_state (1 ∷ []) [] 1 (goes_to 0 ∷ []) []
    ∷ [])
    ≡ refused 8 1 ∷ refused 8 0 ∷ refused 8 1 ∷ refused 8 1 ∷ []
shows_root_holds_no_goto = unfold checks in refl

-- refusal 8 at the lowest node of a body
shows_shape_lowest : judged (one_state (1 ∷ []) [] 3 (goes_to 0 ∷ goes_to 1 ∷ sequences 1 2 ∷ []) []) ≡ refused 8 1
shows_shape_lowest = unfold checks in refl

-- and of all bodies: state 2 has the lower command
shows_shape_lowest_of_states
    : judged (assemble (1 ∷ []) [] (state_record 0 0 0 ∷ state_record 0 0 2 ∷ state_record 0 0 1 ∷ []) (falls ∷ goes_to 0 ∷ goes_to 0 ∷ []) []) ≡ refused 8 1
shows_shape_lowest_of_states = unfold checks in refl

-- "The lowest number that applies comes first": 8 before 9
shows_8_before_9
    : judged (assemble chain [] (state_record 0 0 0 ∷ state_record 0 1 1 ∷ state_record 1 0 2 ∷ []) (falls ∷ falls ∷ goes_to 0 ∷ []) []) ≡ refused 8 2
shows_8_before_9 = unfold checks in refl

-- states 1 below the root, 2 and 3 below 1, with these labels of four, of which 1 and 2 cannot be compared
abbrev labelled : ℕ → ℕ → ℕ → List ℕ
labelled one two three =
    assemble
    (15 ∷ 10 ∷ 12 ∷ 8 ∷ [])
    []
    (state_record 0 0 0 ∷ state_record 0 one 1 ∷ state_record 1 two 2 ∷ state_record 1 three 3 ∷ [])
    (falls ∷ falls ∷ goes_to 2 ∷ goes_to 3 ∷ [])
    []

-- "Every child's label is at or above its parent's.", since E4 of default children only: the same label, one above, one below, and one that cannot be compared; the spare child 3 may have any
shows_child_label
    : map
    judged
    (labelled 1 1 3 ∷ labelled 0 1 2 ∷ labelled 1 0 0 ∷ labelled 1 1 0 ∷ labelled 1 2 1 ∷ labelled 2 1 2 ∷ labelled 3 2 1 ∷ [])
    ≡ accepted 0 ∷ accepted 0 ∷ refused 9 2 ∷ accepted 0 ∷ refused 9 2 ∷ refused 9 2 ∷ refused 9 2 ∷ []
shows_child_label = unfold checks in refl

-- 9 before 10: r0 := 1; fall, in state 1 with label 1; state 2 below it has label 0
shows_9_before_10
    : judged
    (assemble
    chain
    low_and_high
    (state_record 0 0 0 ∷ state_record 0 1 3 ∷ state_record 1 0 4 ∷ [])
    (falls ∷ assigns 0 0 ∷ falls ∷ sequences 1 2 ∷ goes_to 2 ∷ [])
    (constant 1 ∷ []))
    ≡ refused 9 2
shows_9_before_10 = unfold checks in refl
