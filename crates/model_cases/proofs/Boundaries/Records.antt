-- Cases at the boundaries of the records of registers and states, and of the tree of states: refusals 3 and 4, their places and their order.
use Prim.Native.Nat.{ℕ}
use mathlib.Core.Path.{◌≡◌, refl}
use mathlib.Core.List.{List, [], ◌∷◌, map}
use lib.ListN.{replicate}
use Rattle.model.specs.Image.{design_of}
use Rattle.model.specs.States.{default_target}
use Rattle.model.specs.Calls.{run}
use Rattle.model.proofs.Opened.{checks, everything, refused, accepted, judged, told, lent}
use Rattle.model.proofs.Designs.{assemble, lease, tower, one_state, chain, node, register_record, state_record, falls, goes_to}

-- an image with one more register, and one with one more state, which goes to itself, as the root's second child
abbrev with_register : List ℕ → List ℕ
with_register x = one_state chain (register_record 0 0 0 ∷ x ∷ []) 1 (goes_to 1 ∷ []) []

abbrev with_state : List ℕ → List ℕ
with_state x = assemble chain [] (state_record 0 0 0 ∷ state_record 0 0 1 ∷ x ∷ []) (falls ∷ goes_to 1 ∷ goes_to 2 ∷ []) []

abbrev with_root : List ℕ → List ℕ
with_root x = assemble chain [] (x ∷ state_record 0 0 1 ∷ []) (falls ∷ goes_to 1 ∷ []) []

-- refusal 3, "register label or kind": a label is below the count, a kind is 0 or 1
shows_register_record
    : map (λ (x : List ℕ). judged (with_register x)) (register_record 1 1 0 ∷ register_record 2 0 0 ∷ register_record 0 2 0 ∷ register_record 0 255 0 ∷ [])
    ≡ accepted 0 ∷ refused 3 1 ∷ refused 3 1 ∷ refused 3 1 ∷ []
shows_register_record = unfold checks in refl

-- "State 0 is the root: parent 0, label 0."
shows_root
    : map (λ (x : List ℕ). judged (with_root x)) (state_record 0 0 0 ∷ state_record 1 0 0 ∷ state_record 0 1 0 ∷ [])
    ≡ accepted 0 ∷ refused 4 0 ∷ refused 4 0 ∷ []
shows_root = unfold checks in refl

-- "Any other parent has a lower number than its child."
shows_parent
    : map (λ (x : List ℕ). judged (with_state x)) (state_record 0 0 2 ∷ state_record 2 0 2 ∷ state_record 3 0 2 ∷ [])
    ≡ accepted 0 ∷ refused 4 2 ∷ refused 4 2 ∷ []
shows_parent = unfold checks in refl

-- refusal 4, "state's parent, label or command number": label and command number are below their counts
shows_state_record
    : map (λ (x : List ℕ). judged (with_state x)) (state_record 0 1 2 ∷ state_record 0 2 2 ∷ state_record 0 0 3 ∷ [])
    ≡ accepted 0 ∷ refused 4 2 ∷ refused 4 2 ∷ []
shows_state_record = unfold checks in refl

-- "the lowest offending label, register, state or node": of registers 1 and 2, and of states 1 and 2
shows_lowest_record
    : map
    judged
    (one_state (1 ∷ []) (register_record 0 0 0 ∷ register_record 0 2 0 ∷ register_record 1 0 0 ∷ []) 1 (goes_to 1 ∷ []) []
    ∷ assemble (1 ∷ []) [] (state_record 0 0 0 ∷ state_record 0 1 1 ∷ state_record 2 0 2 ∷ []) (falls ∷ goes_to 1 ∷ goes_to 2 ∷ []) []
    ∷ [])
    ≡ refused 3 1 ∷ refused 4 1 ∷ []
shows_lowest_record = unfold checks in refl

-- "The default child is the lowest-numbered child": 4 has 5 and 6, 8 has 9 and 10, and 7 has none
shows_default_child : map (default_target (design_of tower)) (0 ∷ 3 ∷ 4 ∷ 7 ∷ 8 ∷ []) ≡ 1 ∷ 4 ∷ 5 ∷ 7 ∷ 9 ∷ []
shows_default_child = unfold checks in refl

-- a child is one of the states: 5 as a target of the root of five states
shows_child_is_state
    : told (run lease (lent (replicate 8 9) (5 ∷ 1 ∷ 3 ∷ 3 ∷ 4 ∷ [])) 1) ≡ (refused 14 0, lent (replicate 8 9) (5 ∷ 1 ∷ 3 ∷ 3 ∷ 4 ∷ []))
shows_child_is_state = unfold everything in refl

-- "The lowest number that applies comes first": 3 before 4
shows_3_before_4
    : judged (assemble (1 ∷ []) (register_record 0 2 0 ∷ []) (state_record 0 0 0 ∷ state_record 1 0 1 ∷ []) (falls ∷ goes_to 1 ∷ []) []) ≡ refused 3 0
shows_3_before_4 = unfold checks in refl

-- and 4 before 5
shows_4_before_5
    : judged (assemble (1 ∷ []) [] (state_record 0 0 0 ∷ state_record 1 0 1 ∷ []) (falls ∷ node 6 0 0 0 0 ∷ []) []) ≡ refused 4 1
shows_4_before_5 = unfold checks in refl
