-- Cases at the boundaries of 02's E8, each choice of labels: refusals 9 to 12 where labels are those of parameters, and the label that a goto is judged by.
use Prim.Native.Nat.{ℕ}
use mathlib.Core.Path.{◌≡◌, refl}
use mathlib.Core.List.{List, [], ◌∷◌, ◌++◌, map}
use lib.ListN.{replicate}
use Rattle.model.specs.Image.{design_of}
use Rattle.model.specs.Parameters.{choices}
use Rattle.model.specs.Answers.{Numbers}
use Rattle.model.proofs.Opened.{checks, refused, accepted, judged}
use Rattle.model.proofs.Designs.{assemble, diamond, one_of_each, state_record, state_with, skips, assigns, sequences, falls, goes_to, goes_with, goes_with_both, branches, constant, reads}

-- State 2 with this record and command 4: r := e; goto 2, with its parameters as arguments.
abbrev assigned : List ℕ → ℕ → List ℕ → ℕ → ℕ → Numbers
assigned two r e a b =
    judged
    (assemble diamond one_of_each (state_record 0 0 0 ∷ state_record 0 0 1 ∷ two ∷ []) (falls ∷ goes_to 1 ∷ assigns r 0 ∷ goes_with_both 2 a b ∷ sequences 2 3 ∷ []) (e ∷ []))

-- state 2 has the label byte 0 or the one given, and the parameter p with these bounds
abbrev of_one : ℕ → ℕ → ℕ → ℕ → List ℕ → Numbers
of_one label lower upper r e = assigned (state_with 0 label 4 1 lower upper 0 0) r e 64 0

-- the same with p and q
abbrev of_two : ℕ → ℕ × ℕ → ℕ × ℕ → ℕ → List ℕ → Numbers
of_two label p q r e = assigned (state_with 0 label 4 2 p.0 p.1 q.0 q.1) r e 64 65

-- "each choice of labels within the bounds in scope": every label from the lower to the upper; of two parameters every pair
shows_choices
    : map
    (λ (two : List ℕ). choices (design_of (assemble diamond [] (state_record 0 0 0 ∷ state_record 0 0 1 ∷ two ∷ []) (falls ∷ goes_to 1 ∷ goes_to 1 ∷ []) [])) (4 ∷ 5 ∷ []))
    (state_with 0 0 2 2 0 3 1 1 ∷ state_with 0 0 2 2 0 1 2 3 ∷ state_with 0 0 2 2 1 3 0 2 ∷ [])
    ≡ ((0 ∷ 1 ∷ []) ∷ (1 ∷ 1 ∷ []) ∷ (2 ∷ 1 ∷ []) ∷ (3 ∷ 1 ∷ []) ∷ [])
    ∷ ((0 ∷ 2 ∷ []) ∷ (0 ∷ 3 ∷ []) ∷ (1 ∷ 2 ∷ []) ∷ (1 ∷ 3 ∷ []) ∷ [])
    ∷ ((1 ∷ 0 ∷ []) ∷ (1 ∷ 2 ∷ []) ∷ (3 ∷ 0 ∷ []) ∷ (3 ∷ 2 ∷ []) ∷ [])
    ∷ []
shows_choices = unfold checks in refl

-- "A body passes if it keeps every rule for each choice": r := p, where p is 0 to 1, 0 to 3 and 1 to 3; it fails for the last choice, or for one between
shows_read_each_choice
    : map (λ (r : ℕ). of_one 0 0 1 r (reads 64)) (0 ∷ 1 ∷ 2 ∷ 3 ∷ [])
    ∷ map (λ (r : ℕ). of_one 0 0 3 r (reads 64)) (0 ∷ 1 ∷ 2 ∷ 3 ∷ [])
    ∷ map (λ (r : ℕ). of_one 0 0 0 r (reads 64)) (0 ∷ 1 ∷ 2 ∷ 3 ∷ [])
    ∷ []
    ≡ (refused 10 2 ∷ accepted 0 ∷ refused 10 2 ∷ accepted 0 ∷ [])
    ∷ (refused 10 2 ∷ refused 10 2 ∷ refused 10 2 ∷ accepted 0 ∷ [])
    ∷ replicate 4 (accepted 0)
    ∷ []
shows_read_each_choice = unfold checks in refl

-- p := r: it fails for the first choice, or for one that cannot be compared
shows_write_each_choice
    : map (λ (r : ℕ). of_one 0 0 1 64 (reads r)) (0 ∷ 1 ∷ 2 ∷ 3 ∷ [])
    ∷ map (λ (r : ℕ). of_one 0 1 3 64 (reads r)) (0 ∷ 1 ∷ 2 ∷ 3 ∷ [])
    ∷ map (λ (r : ℕ). of_one 0 3 3 64 (reads r)) (0 ∷ 1 ∷ 2 ∷ 3 ∷ [])
    ∷ []
    ≡ (accepted 0 ∷ refused 10 2 ∷ refused 10 2 ∷ refused 10 2 ∷ [])
    ∷ (accepted 0 ∷ accepted 0 ∷ refused 10 2 ∷ refused 10 2 ∷ [])
    ∷ replicate 4 (accepted 0)
    ∷ []
shows_write_each_choice = unfold checks in refl

-- the same parameter to itself is kept for each choice; from one parameter to another it fails for a choice between the first and the last, which differ not
shows_parameter_to_itself
    : of_one 0 0 3 64 (reads 64)
    ∷ of_two 0 (0, 1) (0, 1) 64 (reads 64)
    ∷ of_two 0 (0, 1) (0, 1) 65 (reads 65)
    ∷ of_two 0 (0, 1) (0, 1) 64 (reads 65)
    ∷ of_two 0 (0, 1) (0, 1) 65 (reads 64)
    ∷ []
    ≡ accepted 0 ∷ accepted 0 ∷ accepted 0 ∷ refused 10 2 ∷ refused 10 2 ∷ []
shows_parameter_to_itself = unfold checks in refl

-- from one to another where its upper bound flows to the other's lower one, and only then
shows_parameter_to_another
    : map
    (λ (pq : (ℕ × ℕ) × (ℕ × ℕ)). of_two 0 pq.0 pq.1 65 (reads 64))
    (((0, 1), (1, 3)) ∷ ((0, 0), (0, 3)) ∷ ((0, 3), (3, 3)) ∷ ((0, 1), (0, 3)) ∷ ((0, 3), (1, 3)) ∷ ((1, 1), (2, 3)) ∷ [])
    ≡ replicate 3 (accepted 0) ++ replicate 3 (refused 10 2)
shows_parameter_to_another = unfold checks in refl

-- "state label bytes 16 and 17 stand for their labels": in a state with p's label a constant goes to p, and to a register above its every choice; with q's to q
shows_context_each_choice
    : map (λ (r : ℕ). of_one 16 0 1 r (constant 1)) (0 ∷ 1 ∷ 2 ∷ 3 ∷ 64 ∷ [])
    ∷ map (λ (r : ℕ). of_two 16 (0, 1) (0, 2) r (constant 1)) (1 ∷ 2 ∷ 3 ∷ 64 ∷ 65 ∷ [])
    ∷ map (λ (r : ℕ). of_two 17 (0, 1) (0, 2) r (constant 1)) (1 ∷ 2 ∷ 3 ∷ 64 ∷ 65 ∷ [])
    ∷ []
    ≡ (refused 10 2 ∷ accepted 0 ∷ refused 10 2 ∷ accepted 0 ∷ accepted 0 ∷ [])
    ∷ (accepted 0 ∷ refused 10 2 ∷ accepted 0 ∷ accepted 0 ∷ refused 10 2 ∷ [])
    ∷ (refused 10 2 ∷ accepted 0 ∷ accepted 0 ∷ refused 10 2 ∷ accepted 0 ∷ [])
    ∷ []
shows_context_each_choice = unfold checks in refl

-- a state with label 1 writes p from 1 to 3, and not p from 0 to 3
shows_context_to_parameter
    : map (λ (x : ℕ × ℕ). assigned (state_with 0 1 4 1 x.0 x.1 0 0) 64 (constant 1) 64 0) ((1, 3) ∷ (0, 3) ∷ (2, 3) ∷ []) ≡ accepted 0 ∷ refused 10 2 ∷ refused 10 2 ∷ []
shows_context_to_parameter = unfold checks in refl

-- p in a condition: (if p then r := 1 else skip); goto 1, where p is 0 to 1
shows_condition_each_choice
    : map
    (λ (r : ℕ).
    judged
    (assemble
    diamond
    one_of_each
    (state_record 0 0 0 ∷ state_record 0 0 1 ∷ state_with 0 0 6 1 0 1 0 0 ∷ [])
    (falls ∷ goes_to 1 ∷ assigns r 1 ∷ skips ∷ branches 0 2 3 ∷ goes_to 1 ∷ sequences 4 5 ∷ [])
    (reads 64 ∷ constant 1 ∷ [])))
    (0 ∷ 1 ∷ 2 ∷ 3 ∷ 64 ∷ [])
    ≡ refused 10 2 ∷ accepted 0 ∷ refused 10 2 ∷ accepted 0 ∷ accepted 0 ∷ []
shows_condition_each_choice = unfold checks in refl

-- "at fault is the first command in reading order that fails for some choice": r0 := p fails for the last choice and p := r1 for the first; in both orders
shows_first_for_some_choice
    : map
    (λ (x : List ℕ). judged (assemble diamond one_of_each (state_record 0 0 0 ∷ state_record 0 0 1 ∷ state_with 0 0 6 1 0 1 0 0 ∷ []) (falls ∷ goes_to 1 ∷ assigns 0 0 ∷ assigns 64 1 ∷ x ∷ goes_to 1 ∷ sequences 4 5 ∷ []) (reads 64 ∷ reads 1 ∷ [])))
    (sequences 2 3 ∷ sequences 3 2 ∷ [])
    ≡ refused 10 2 ∷ refused 10 3 ∷ []
shows_first_for_some_choice = unfold checks in refl

-- ---- 11: the named state's label
-- State 1 of label 0: if c then goto 2 else goto 2, with the fields a and b. State 2 has this label byte and p, or p and q, from 0 to 3, and goes to itself with them.
abbrev gone_to_one : ℕ → ℕ → ℕ → Numbers
gone_to_one label c a =
    judged
    (assemble
    diamond
    one_of_each
    (state_record 0 0 0 ∷ state_record 0 0 3 ∷ state_with 0 label 4 1 0 3 0 0 ∷ [])
    (falls ∷ goes_with 2 a ∷ goes_with 2 a ∷ branches 0 1 2 ∷ goes_with 2 64 ∷ [])
    (reads c ∷ []))

abbrev gone_to_two : ℕ → ℕ → ℕ → ℕ → Numbers
gone_to_two label c a b =
    judged
    (assemble
    diamond
    one_of_each
    (state_record 0 0 0 ∷ state_record 0 0 3 ∷ state_with 0 label 4 2 0 3 0 3 ∷ [])
    (falls ∷ goes_with_both 2 a b ∷ goes_with_both 2 a b ∷ branches 0 1 2 ∷ goes_with_both 2 64 65 ∷ [])
    (reads c ∷ []))

-- "Where the named state's label is its own parameter's, the goto rule takes the argument's label": neither its lower bound, 0, nor its upper, 3
shows_argument_label
    : map (gone_to_one 16 1) (0 ∷ 1 ∷ 2 ∷ 3 ∷ []) ∷ map (gone_to_one 16 0) (0 ∷ 1 ∷ 2 ∷ 3 ∷ []) ∷ map (gone_to_one 16 3) (0 ∷ 1 ∷ 2 ∷ 3 ∷ []) ∷ []
    ≡ (refused 11 1 ∷ accepted 0 ∷ refused 11 1 ∷ accepted 0 ∷ [])
    ∷ replicate 4 (accepted 0)
    ∷ (refused 11 1 ∷ refused 11 1 ∷ refused 11 1 ∷ accepted 0 ∷ [])
    ∷ []
shows_argument_label = unfold checks in refl

-- where it is a label it is judged as before, whatever the argument
shows_fixed_label
    : map (gone_to_one 1 1) (0 ∷ 1 ∷ 2 ∷ 3 ∷ []) ∷ map (gone_to_one 2 1) (0 ∷ 1 ∷ 2 ∷ 3 ∷ []) ∷ [] ≡ replicate 4 (accepted 0) ∷ replicate 4 (refused 11 1) ∷ []
shows_fixed_label = unfold checks in refl

-- the label of the first parameter is that of field a, and of the second that of field b
shows_second_argument_label
    : gone_to_two 16 1 1 0 ∷ gone_to_two 16 1 0 1 ∷ gone_to_two 17 1 0 1 ∷ gone_to_two 17 1 1 0 ∷ gone_to_two 17 1 1 3 ∷ gone_to_two 16 1 2 1 ∷ []
    ≡ accepted 0 ∷ refused 11 1 ∷ accepted 0 ∷ refused 11 1 ∷ accepted 0 ∷ refused 11 1 ∷ []
shows_second_argument_label = unfold checks in refl

-- State 2 with this record goes to itself with the fields a and b.
abbrev around : List ℕ → ℕ → ℕ → Numbers
around two a b = judged (assemble diamond one_of_each (state_record 0 0 0 ∷ state_record 0 0 1 ∷ two ∷ []) (falls ∷ goes_to 1 ∷ goes_with_both 2 a b ∷ []) [])

-- with p's label it goes to itself with p, whatever p is, and with a register that is above p's every choice
shows_around_with_parameter
    : around (state_with 0 16 2 1 0 3 0 0) 64 0 ∷ around (state_with 0 16 2 1 0 3 0 0) 3 0 ∷ around (state_with 0 16 2 1 0 3 0 0) 1 0 ∷ around (state_with 0 16 2 1 0 1 0 0) 1 0 ∷ around (state_with 0 16 2 1 0 1 0 0) 0 0 ∷ []
    ≡ accepted 0 ∷ accepted 0 ∷ refused 11 2 ∷ accepted 0 ∷ refused 11 2 ∷ []
shows_around_with_parameter = unfold checks in refl

-- with p and q exchanged it goes from p's label to q's: refused unless p's upper bound flows to q's lower one; here the bounds of both hold 1 alone or more
shows_around_exchanged
    : around (state_with 0 16 2 2 0 1 0 1) 64 65
    ∷ around (state_with 0 16 2 2 0 1 0 1) 65 64
    ∷ around (state_with 0 17 2 2 0 1 0 1) 64 65
    ∷ around (state_with 0 17 2 2 0 1 0 1) 65 64
    ∷ around (state_with 0 17 2 2 1 1 1 1) 65 64
    ∷ []
    ≡ accepted 0 ∷ refused 11 2 ∷ accepted 0 ∷ refused 11 2 ∷ accepted 0 ∷ []
shows_around_exchanged = unfold checks in refl

-- from p's label to a state with a label: for each choice
shows_goto_each_choice
    : map
    (λ (label : ℕ). judged (assemble diamond one_of_each (state_record 0 0 0 ∷ state_record 0 0 1 ∷ state_with 0 16 2 1 0 1 0 0 ∷ state_record 0 label 3 ∷ []) (falls ∷ goes_to 1 ∷ goes_to 3 ∷ goes_to 3 ∷ []) []))
    (0 ∷ 1 ∷ 2 ∷ 3 ∷ [])
    ≡ refused 11 2 ∷ accepted 0 ∷ refused 11 2 ∷ accepted 0 ∷ []
shows_goto_each_choice = unfold checks in refl

-- State 2 has p from 0 to 1. Below it state 3 has this label byte and goes to state 4, which has this label byte and q from 0 to 3, with the field a; 4 goes to itself with q.
abbrev beside : ℕ → ℕ → ℕ → Numbers
beside three four a =
    judged
    (assemble
    diamond
    one_of_each
    (state_record 0 0 0 ∷ state_record 0 0 1 ∷ state_with 0 0 2 1 0 1 0 0 ∷ state_record 2 three 3 ∷ state_with 2 four 4 1 0 3 0 0 ∷ [])
    (falls ∷ goes_to 1 ∷ falls ∷ goes_with 4 a ∷ goes_with 4 65 ∷ [])
    [])

-- 4 with the inherited p's label: p flows to p, whatever the argument; a label flows to p where it flows to each choice
shows_inherited_label
    : beside 16 16 0 ∷ beside 16 16 3 ∷ beside 16 16 64 ∷ beside 0 16 3 ∷ beside 1 16 3 ∷ beside 16 0 3 ∷ beside 16 1 0 ∷ []
    ≡ accepted 0 ∷ accepted 0 ∷ accepted 0 ∷ accepted 0 ∷ refused 11 3 ∷ refused 11 3 ∷ accepted 0 ∷ []
shows_inherited_label = unfold checks in refl

-- 4 with its own q's label, byte 17: the argument's label, of a register and of the inherited p
shows_own_label
    : beside 16 17 0 ∷ beside 16 17 1 ∷ beside 16 17 2 ∷ beside 16 17 3 ∷ beside 16 17 64 ∷ beside 0 17 0 ∷ beside 1 17 64 ∷ beside 2 17 2 ∷ []
    ≡ refused 11 3 ∷ accepted 0 ∷ refused 11 3 ∷ accepted 0 ∷ accepted 0 ∷ accepted 0 ∷ refused 11 3 ∷ accepted 0 ∷ []
shows_own_label = unfold checks in refl

-- ---- 12 and 9
-- State 2 with this record, with command 4: if e then fall else fall; state 3 below it with this label byte goes to itself.
abbrev fallen : List ℕ → ℕ → ℕ → Numbers
fallen two r three =
    judged
    (assemble
    diamond
    one_of_each
    (state_record 0 0 0 ∷ state_record 0 0 1 ∷ two ∷ state_record 2 three 5 ∷ [])
    (falls ∷ goes_to 1 ∷ falls ∷ falls ∷ branches 0 2 3 ∷ goes_to 3 ∷ [])
    (reads r ∷ []))

-- "Fall: the context flows to the own state's label", for each choice: with p's label, by a condition on p, on a register, and on q
shows_fall_each_choice
    : map (λ (r : ℕ). fallen (state_with 0 16 4 1 0 3 0 0) r 3) (64 ∷ 0 ∷ 1 ∷ 3 ∷ [])
    ∷ map (λ (r : ℕ). fallen (state_with 0 16 4 1 1 3 0 0) r 3) (64 ∷ 0 ∷ 1 ∷ 3 ∷ [])
    ∷ map (λ (r : ℕ). fallen (state_with 0 16 4 2 0 1 0 1) r 3) (64 ∷ 65 ∷ [])
    ∷ map (λ (r : ℕ). fallen (state_with 0 1 4 2 0 1 0 3) r 3) (64 ∷ 65 ∷ [])
    ∷ []
    ≡ (accepted 0 ∷ accepted 0 ∷ refused 12 2 ∷ refused 12 2 ∷ [])
    ∷ (accepted 0 ∷ accepted 0 ∷ accepted 0 ∷ refused 12 2 ∷ [])
    ∷ (accepted 0 ∷ refused 12 2 ∷ [])
    ∷ (accepted 0 ∷ refused 12 2 ∷ [])
    ∷ []
shows_fall_each_choice = unfold checks in refl

-- "the default-child test is read likewise": from p's label to a label, fails for the upper choice; to p's, never
shows_child_each_choice
    : map (fallen (state_with 0 16 4 1 0 1 0 0) 0) (0 ∷ 1 ∷ 2 ∷ 3 ∷ 16 ∷ [])
    ∷ map (fallen (state_with 0 16 4 1 0 3 0 0) 0) (1 ∷ 3 ∷ 16 ∷ [])
    ∷ []
    ≡ (refused 9 3 ∷ accepted 0 ∷ refused 9 3 ∷ accepted 0 ∷ accepted 0 ∷ [])
    ∷ (refused 9 3 ∷ accepted 0 ∷ accepted 0 ∷ [])
    ∷ []
shows_child_each_choice = unfold checks in refl

-- from a label to p's, fails for the lower choice; from p's to q's, fails for one between
shows_child_of_parameter
    : map (λ (x : ℕ × ℕ). fallen (state_with 0 1 4 1 x.0 x.1 0 0) 0 16) ((1, 3) ∷ (0, 3) ∷ (0, 1) ∷ (2, 3) ∷ [])
    ∷ map (λ (x : ℕ × ℕ). fallen (state_with 0 16 4 2 0 1 x.0 x.1) 0 17) ((1, 3) ∷ (0, 1) ∷ (0, 3) ∷ [])
    ∷ []
    ≡ (accepted 0 ∷ refused 9 3 ∷ refused 9 3 ∷ refused 9 3 ∷ []) ∷ (accepted 0 ∷ refused 9 3 ∷ refused 9 3 ∷ []) ∷ []
shows_child_of_parameter = unfold checks in refl

-- of a state that holds no fall the default child may have any label, and a child that is not the default one
shows_child_without_fall
    : map
    (λ (body : List ℕ). judged (assemble diamond [] (state_record 0 0 0 ∷ state_record 0 0 1 ∷ state_with 0 16 2 1 0 3 0 0 ∷ state_record 2 16 3 ∷ state_record 2 0 4 ∷ []) (falls ∷ goes_to 1 ∷ body ∷ goes_to 3 ∷ goes_to 4 ∷ []) []))
    (falls ∷ goes_with 2 64 ∷ [])
    ≡ accepted 0 ∷ accepted 0 ∷ []
shows_child_without_fall = unfold checks in refl
