-- Cases at the boundaries of 02's E6, 'Raise the labels for me': which labels rise and how far, and refusals 14 and 18.
use Prim.Native.Nat.{ℕ, suc, pred}
use mathlib.Core.Path.{◌≡◌, refl}
use mathlib.Core.List.{List, [], ◌∷◌, map}
use lib.ListN.{length, replicate}
use Rattle.model.specs.Answers.{Numbers}
use Rattle.model.specs.Raising.{raise}
use Rattle.model.proofs.Opened.{raising, checks, refused, accepted, judged, told}
use Rattle.model.proofs.Designs.{assemble, one_state, chain, register_record, state_record, state_with, skips, assigns, sequences, falls, goes_to, branches, constant, reads, adds, lease, one_group}

-- a second area of as many bytes as an image, of one less and of one more, with any bytes in it
abbrev area : List ℕ → List ℕ
area image = replicate (length image) 9

abbrev shorter : List ℕ → List ℕ
shorter image = replicate (pred (length image)) 9

abbrev longer : List ℕ → List ℕ
longer image = replicate (suc (length image)) 9

-- what a call with such an area answers and leaves
abbrev raised : List ℕ → Numbers × List ℕ
raised image = told (raise image (area image))

-- Four labels, of which 1 and 2 cannot be compared and 3 is the top. Register r0 is an inner one, r1 and r2 are ports: r0 := r1 + r2; goto 1
abbrev diamond : List ℕ
diamond = 15 ∷ 10 ∷ 12 ∷ 8 ∷ []

abbrev summed : List ℕ → ℕ → ℕ → ℕ → List ℕ
summed rows own p q =
    one_state rows (register_record own 0 0 ∷ register_record p 1 0 ∷ register_record q 1 0 ∷ []) 3 (assigns 0 2 ∷ goes_to 1 ∷ sequences 1 2 ∷ []) (reads 1 ∷ reads 2 ∷ adds 0 1 ∷ [])

-- "inner register labels raised .. so that the whole is accepted"; "The result is the least": to the label of one, of the other, of both where they are one, and to
-- the top only where both flow in
shows_raised_to_least
    : map (λ (pq : ℕ × ℕ). raised (summed diamond 0 pq.0 pq.1)) ((1, 0) ∷ (0, 2) ∷ (1, 1) ∷ (1, 2) ∷ (3, 0) ∷ [])
    ≡ (accepted 0, summed diamond 1 1 0)
    ∷ (accepted 0, summed diamond 2 0 2)
    ∷ (accepted 0, summed diamond 1 1 1)
    ∷ (accepted 0, summed diamond 3 1 2)
    ∷ (accepted 0, summed diamond 3 3 0)
    ∷ []
shows_raised_to_least = unfold raising in refl

-- such an image is refused by 10 as it comes in; that is not asked
shows_raised_from_ten : judged (summed diamond 0 1 2) ≡ refused 10 1
shows_raised_from_ten = unfold checks in refl

-- "never lowered": a register that is higher than it needs to be stays, and one that is beside what flows in goes above both
shows_never_lowered
    : map (λ (own : ℕ). raised (summed diamond own 1 0)) (1 ∷ 2 ∷ 3 ∷ [])
    ≡ (accepted 0, summed diamond 1 1 0) ∷ (accepted 0, summed diamond 3 1 0) ∷ (accepted 0, summed diamond 3 1 0) ∷ []
shows_never_lowered = unfold raising in refl

-- The least label above is not the one with the lowest number: here label 1 is the top, and 2 and 3 cannot be compared.
abbrev turned : List ℕ
turned = 15 ∷ 2 ∷ 6 ∷ 10 ∷ []

shows_least_not_lowest
    : map (λ (pq : ℕ × ℕ). raised (summed turned 0 pq.0 pq.1)) ((2, 0) ∷ (0, 3) ∷ (3, 2) ∷ [])
    ≡ (accepted 0, summed turned 2 2 0) ∷ (accepted 0, summed turned 3 0 3) ∷ (accepted 0, summed turned 1 3 2) ∷ []
shows_least_not_lowest = unfold raising in refl

-- Inner registers r0 to r2, and the ports r3 of label 1 and r4 of label 0, over two labels; state 1 has the body numbered over these commands.
abbrev five : ℕ → ℕ → ℕ → List (List ℕ)
five a b c = register_record a 0 0 ∷ register_record b 0 0 ∷ register_record c 0 0 ∷ register_record 1 1 0 ∷ register_record 0 1 0 ∷ []

-- r0 := r1; r1 := r2; r2 := r3; goto 1: written in the order in which each pass raises one
abbrev upstream : ℕ → ℕ → ℕ → List ℕ
upstream a b c =
    one_state chain (five a b c) 7 (assigns 0 0 ∷ assigns 1 1 ∷ assigns 2 2 ∷ goes_to 1 ∷ sequences 3 4 ∷ sequences 2 5 ∷ sequences 1 6 ∷ []) (reads 1 ∷ reads 2 ∷ reads 3 ∷ [])

-- passes are made until nothing moves; port r4 is left at label 0
shows_passes : raised (upstream 0 0 0) ≡ (accepted 0, upstream 1 1 1)
shows_passes = unfold raising in refl

-- only what is needed: where r1 := r4 cuts the chain, r0 and r1 stay
abbrev cut : ℕ → ℕ → ℕ → List ℕ
cut a b c =
    one_state chain (five a b c) 7 (assigns 0 0 ∷ assigns 1 1 ∷ assigns 2 2 ∷ goes_to 1 ∷ sequences 3 4 ∷ sequences 2 5 ∷ sequences 1 6 ∷ []) (reads 1 ∷ reads 4 ∷ reads 3 ∷ [])

shows_only_needed : raised (cut 0 0 0) ≡ (accepted 0, cut 0 0 1)
shows_only_needed = unfold raising in refl

-- State 1 does r0 := r1; goto 2, and state 2 does r1 := r3; goto 1: the bodies of all states count, the last too
abbrev two_states : ℕ → ℕ → List ℕ
two_states a b =
    assemble
    chain
    (five a b 0)
    (state_record 0 0 0 ∷ state_record 0 0 3 ∷ state_record 0 0 6 ∷ [])
    (falls ∷ assigns 0 0 ∷ goes_to 2 ∷ sequences 1 2 ∷ assigns 1 1 ∷ goes_to 1 ∷ sequences 4 5 ∷ [])
    (reads 1 ∷ reads 3 ∷ [])

shows_all_bodies : raised (two_states 0 0) ≡ (accepted 0, two_states 1 1)
shows_all_bodies = unfold raising in refl

-- "the labels of all registers read in the conditions of the ifs around it": (if r3 then r0 := 1 else r1 := 1); goto 1
abbrev under_if : ℕ → ℕ → ℕ → List ℕ
under_if c a b =
    one_state chain (five a b 0) 5 (assigns 0 1 ∷ assigns 1 2 ∷ branches 0 1 2 ∷ goes_to 1 ∷ sequences 3 4 ∷ []) (reads c ∷ constant 1 ∷ constant 1 ∷ [])

-- both branches rise with a condition of label 1, and neither with one of label 0
shows_condition_raises : raised (under_if 3 0 0) ≡ (accepted 0, under_if 3 1 1)
shows_condition_raises = unfold raising in refl

shows_low_condition : raised (under_if 4 0 0) ≡ (accepted 0, under_if 4 0 0)
shows_low_condition = unfold raising in refl

-- the outer of two ifs counts: if r3 then (if r4 then r0 := 1 else skip) else r1 := r4
abbrev under_two : ℕ → ℕ → List ℕ
under_two a b =
    one_state
    chain
    (five a b 0)
    7
    (assigns 0 2 ∷ skips ∷ branches 1 1 2 ∷ assigns 1 3 ∷ branches 0 3 4 ∷ goes_to 1 ∷ sequences 5 6 ∷ [])
    (reads 3 ∷ reads 4 ∷ constant 1 ∷ reads 4 ∷ [])

shows_outer_condition : raised (under_two 0 0) ≡ (accepted 0, under_two 1 1)
shows_outer_condition = unfold raising in refl

-- "its state's label": state 1 of the label given does r0 := 1; goto 1
abbrev in_state : ℕ → ℕ → List ℕ
in_state label a = assemble chain (five a 0 0) (state_record 0 0 0 ∷ state_record 0 label 3 ∷ []) (falls ∷ assigns 0 0 ∷ goes_to 1 ∷ sequences 1 2 ∷ []) (constant 1 ∷ [])

shows_state_raises : map (λ (label : ℕ). raised (in_state label 0)) (0 ∷ 1 ∷ []) ≡ (accepted 0, in_state 0 0) ∷ (accepted 0, in_state 1 1) ∷ []
shows_state_raises = unfold raising in refl

-- ---- refusals
-- r0 := r3; r1 := r0; if r1 then goto 1 else goto 1: the context of the gotos rises by way of two assignments. "Port and state labels are fixed."
abbrev leaking : List ℕ
leaking =
    one_state
    chain
    (five 0 0 0)
    7
    (assigns 0 0 ∷ assigns 1 1 ∷ goes_to 1 ∷ goes_to 1 ∷ branches 2 3 4 ∷ sequences 2 5 ∷ sequences 1 6 ∷ [])
    (reads 3 ∷ reads 0 ∷ reads 1 ∷ [])

-- "It refuses with 18, place 0", and the area is as it was; before raising only the assignments are at fault
shows_no_raising : raised leaking ≡ (refused 18 0, area leaking)
shows_no_raising = unfold raising in refl

shows_leak_unseen : judged leaking ≡ refused 10 1
shows_leak_unseen = unfold checks in refl

-- a fault of a goto or a fall is not helped by raising: if r3 then goto 1 else goto 1, and in the root if r3 then fall else fall
abbrev bad_goto : List ℕ
bad_goto = one_state chain (five 0 0 0) 3 (goes_to 1 ∷ goes_to 1 ∷ branches 0 1 2 ∷ []) (reads 3 ∷ [])

abbrev bad_fall : List ℕ
bad_fall = assemble chain (five 0 0 0) (state_record 0 0 2 ∷ state_record 0 0 3 ∷ []) (falls ∷ falls ∷ branches 0 0 1 ∷ goes_to 1 ∷ []) (reads 3 ∷ [])

shows_faults_of_transfers : map judged (bad_goto ∷ bad_fall ∷ []) ≡ refused 11 1 ∷ refused 12 0 ∷ []
shows_faults_of_transfers = unfold checks in refl

shows_not_helped : map raised (bad_goto ∷ bad_fall ∷ []) ≡ (refused 18 0, area bad_goto) ∷ (refused 18 0, area bad_fall) ∷ []
shows_not_helped = unfold raising in refl

-- "An output area not as long as the image is refusal 14": shorter and longer, before 18, and where there is a raising
shows_area
    : map (λ (image : List ℕ). told (raise image (shorter image))) (bad_goto ∷ upstream 0 0 0 ∷ lease ∷ [])
    ≡ (refused 14 0, shorter bad_goto) ∷ (refused 14 0, shorter (upstream 0 0 0)) ∷ (refused 14 0, shorter lease) ∷ []
shows_area = unfold raising in refl

shows_long_area : told (raise bad_goto (longer bad_goto)) ≡ (refused 14 0, longer bad_goto)
shows_long_area = unfold raising in refl

-- "judged after the image checks": 9, for the default child of a state of label 1 that holds a fall, and 16, for an assignment to r3
abbrev low_child : List ℕ
low_child = assemble chain (five 0 0 0) (state_record 0 0 0 ∷ state_record 0 1 1 ∷ state_record 1 0 2 ∷ []) (falls ∷ falls ∷ goes_to 2 ∷ []) []

abbrev to_port : List ℕ
to_port = one_state chain (five 0 0 0) 3 (assigns 3 0 ∷ goes_to 1 ∷ sequences 1 2 ∷ []) (constant 1 ∷ [])

shows_image_first
    : map (λ (image : List ℕ). told (raise image (shorter image))) (low_child ∷ to_port ∷ [] ∷ [])
    ≡ (refused 9 2, shorter low_child) ∷ (refused 16 1, shorter to_port) ∷ (refused 1 0, shorter []) ∷ []
shows_image_first = unfold raising in refl

-- the checks up to 9 stay refusals where the area is right
shows_structure_stays : map raised (low_child ∷ to_port ∷ []) ≡ (refused 9 2, area low_child) ∷ (refused 16 1, area to_port) ∷ []
shows_structure_stays = unfold raising in refl

-- "An accepted image comes back unchanged": the lease design, one whose registers are all higher than they need to be, and what was raised
shows_comes_back
    : map raised (lease ∷ upstream 1 1 1 ∷ cut 1 1 1 ∷ []) ≡ (accepted 0, lease) ∷ (accepted 0, upstream 1 1 1) ∷ (accepted 0, cut 1 1 1) ∷ []
shows_comes_back = unfold raising in refl

-- 02, E8: "raising refuses with 20, place 0, after its image checks and before 14, an image that has parameters". State 2 has this record and goes to 1; states 1 and 2 have the
-- labels given, and state 1 does r0 := r3; goto t, which 10 refuses as it comes in.
abbrev parameterised : List ℕ → ℕ → List ℕ
parameterised two t =
    assemble chain (five 0 0 0) (state_record 0 0 0 ∷ state_record 0 0 3 ∷ two ∷ []) (falls ∷ assigns 0 0 ∷ goes_to t ∷ sequences 1 2 ∷ goes_to 1 ∷ []) (reads 3 ∷ [])

-- one parameter or two, in the last state; without any it is raised
shows_raising_parameters
    : map (λ (count : ℕ). (raised (parameterised (state_with 0 0 4 count 0 0 0 0) 1)).0) (0 ∷ 1 ∷ 2 ∷ []) ≡ accepted 0 ∷ refused 20 0 ∷ refused 20 0 ∷ []
shows_raising_parameters = unfold raising in refl

-- the area is as it was, and an area of another length is not looked at
shows_20_before_14
    : told (raise (parameterised (state_with 0 0 4 1 0 0 0 0) 1) (9 ∷ [])) ∷ told (raise (parameterised (state_record 0 0 4) 1) (9 ∷ [])) ∷ []
    ≡ (refused 20 0, 9 ∷ []) ∷ (refused 14 0, 9 ∷ []) ∷ []
shows_20_before_14 = unfold raising in refl

-- an accepted image that has parameters is refused too
shows_20_of_accepted : told (raise one_group (9 ∷ [])) ≡ (refused 20 0, 9 ∷ [])
shows_20_of_accepted = unfold raising in refl

-- after the image checks: 8 of a goto to the root, 19 of a count, 19 of an argument outside its bounds, and 9
shows_image_before_20
    : map
    (λ (image : List ℕ). (raised image).0)
    (parameterised (state_with 0 0 4 1 0 0 0 0) 0
    ∷ parameterised (state_with 0 0 4 3 0 0 0 0) 1
    ∷ parameterised (state_with 0 0 4 1 1 1 0 0) 2
    ∷ assemble chain (five 0 0 0) (state_record 0 0 0 ∷ state_record 0 1 1 ∷ state_record 1 0 2 ∷ state_with 1 0 3 1 0 0 0 0 ∷ []) (falls ∷ falls ∷ goes_to 2 ∷ goes_to 2 ∷ []) []
    ∷ [])
    ≡ refused 8 2 ∷ refused 19 2 ∷ refused 19 2 ∷ refused 9 2 ∷ []
shows_image_before_20 = unfold raising in refl
