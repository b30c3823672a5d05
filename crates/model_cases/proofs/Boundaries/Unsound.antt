-- Cases at the boundaries of 02's E8, refusal 14 of the registers bound to parameters: which bytes it judges, by what, at which state and when.
use Prim.Native.Nat.{ℕ}
use mathlib.Core.Path.{◌≡◌, refl}
use mathlib.Core.List.{List, [], ◌∷◌, ◌++◌, map}
use lib.ListN.{replicate, set}
use Rattle.model.specs.Image.{design_of}
use Rattle.model.specs.Answers.{Numbers, numbers_of}
use Rattle.model.specs.Calls.{Lent, bindings_answer, run, run_answer}
use Rattle.model.specs.Parties.{writes, perform}
use Rattle.model.proofs.Opened.{everything, refused, accepted, judged, told, lent_bound}
use Rattle.model.proofs.Designs.{assemble, one_state, diamond, one_of_each, register_record, width_record, state_record, state_with, falls, goes_to}

-- r0 to r3 have the labels 0 to 3, and r4 is a port of label 1. States 1, 2 and 5 below the root, 3 and 4 below 2. State 2 has p from 1 to 3, and the body given; state 4 has q
-- from 0 to 1; state 5 has two, from 2 to 3 and from 0 to 0.
abbrev sound : List ℕ → List ℕ
sound body =
    assemble
    diamond
    (one_of_each ++ (register_record 1 1 0 ∷ []))
    (state_record 0 0 0 ∷ state_record 0 0 1 ∷ state_with 0 0 2 1 1 3 0 0 ∷ state_record 2 0 3 ∷ state_with 2 0 4 1 0 1 0 0 ∷ state_with 0 0 5 2 2 3 0 0 ∷ [])
    (falls ∷ goes_to 1 ∷ body ∷ goes_to 3 ∷ goes_to 3 ∷ goes_to 1 ∷ [])
    []

shows_sound_accepted : map judged (sound falls ∷ sound (goes_to 1) ∷ []) ≡ accepted 0 ∷ accepted 0 ∷ []
shows_sound_accepted = unfold everything in refl

-- these as the targets of the root and of 2, and these bytes behind the targets
abbrev area : ℕ → ℕ → List ℕ → Lent
area root two bound = lent_bound (replicate 20 0) (root ∷ 1 ∷ two ∷ 3 ∷ 4 ∷ 5 ∷ []) bound

-- what a run answers to them once image, lengths, contents and targets are kept
abbrev answered : List ℕ → ℕ → ℕ → List ℕ → Numbers
answered body root two bound = numbers_of (bindings_answer (design_of (sound body)) (area root two bound))

-- byte i behind the targets holds v and all others 0
abbrev holding : ℕ → ℕ → List ℕ
holding i v = set (replicate 12 0) i v

-- "each is 0 or an existing register's number": of every byte, used or not; here no state with a parameter is along the targets, so that any register will do
shows_binding_bytes
    : map (λ (i : ℕ). map (λ (v : ℕ). answered falls 1 3 (holding i v)) (0 ∷ 4 ∷ 5 ∷ 64 ∷ 255 ∷ [])) (0 ∷ 1 ∷ 4 ∷ 5 ∷ 7 ∷ 8 ∷ 10 ∷ 11 ∷ [])
    ≡ map (λ (s : ℕ). accepted 0 ∷ accepted 0 ∷ replicate 3 (refused 14 s)) (0 ∷ 0 ∷ 2 ∷ 2 ∷ 3 ∷ 4 ∷ 5 ∷ 5 ∷ [])
shows_binding_bytes = unfold everything in refl

-- "along the current targets each bound register exists, is no port and its label lies within its bounds": p by each register, the port last, where 2 is the target of the
-- root; whether or not 2 holds a fall; not where another is
shows_binding_of_2
    : map (λ (v : ℕ). answered falls 2 3 (holding 4 v)) (0 ∷ 1 ∷ 2 ∷ 3 ∷ 4 ∷ [])
    ∷ map (λ (v : ℕ). answered (goes_to 1) 2 3 (holding 4 v)) (0 ∷ 1 ∷ 2 ∷ 3 ∷ 4 ∷ [])
    ∷ map (λ (v : ℕ). answered falls 1 4 (holding 4 v)) (0 ∷ 1 ∷ 2 ∷ 3 ∷ 4 ∷ [])
    ∷ []
    ≡ (refused 14 2 ∷ accepted 0 ∷ refused 14 2 ∷ accepted 0 ∷ refused 14 2 ∷ [])
    ∷ (refused 14 2 ∷ accepted 0 ∷ refused 14 2 ∷ accepted 0 ∷ refused 14 2 ∷ [])
    ∷ replicate 5 (accepted 0)
    ∷ []
shows_binding_of_2 = unfold everything in refl

-- the byte of 2 that no parameter has may be any register along the targets too
shows_unused_binding : map (λ (v : ℕ). answered falls 2 3 (set (holding 4 1) 5 v)) (0 ∷ 2 ∷ 4 ∷ 5 ∷ []) ≡ accepted 0 ∷ accepted 0 ∷ accepted 0 ∷ refused 14 2 ∷ []
shows_unused_binding = unfold everything in refl

-- q of 4, below 2, with p bound to r1: "from the root, through states with and without a fall, to a childless one"; where 3 is the target of 2, or 1 that of the root, 4 is
-- not along them
shows_binding_of_4
    : map (λ (v : ℕ). answered falls 2 4 (set (holding 4 1) 8 v)) (0 ∷ 1 ∷ 2 ∷ 3 ∷ 4 ∷ [])
    ∷ map (λ (v : ℕ). answered (goes_to 1) 2 4 (set (holding 4 1) 8 v)) (0 ∷ 1 ∷ 2 ∷ 3 ∷ 4 ∷ [])
    ∷ map (λ (v : ℕ). answered falls 2 3 (set (holding 4 1) 8 v)) (0 ∷ 1 ∷ 2 ∷ 3 ∷ 4 ∷ [])
    ∷ map (λ (v : ℕ). answered falls 1 4 (set (holding 4 1) 8 v)) (0 ∷ 1 ∷ 2 ∷ 3 ∷ 4 ∷ [])
    ∷ []
    ≡ (accepted 0 ∷ accepted 0 ∷ refused 14 4 ∷ refused 14 4 ∷ refused 14 4 ∷ [])
    ∷ (accepted 0 ∷ accepted 0 ∷ refused 14 4 ∷ refused 14 4 ∷ refused 14 4 ∷ [])
    ∷ replicate 5 (accepted 0)
    ∷ replicate 5 (accepted 0)
    ∷ []
shows_binding_of_4 = unfold everything in refl

-- both parameters of 5, each by its own bounds
shows_bindings_of_5
    : map (λ (x : ℕ × ℕ). answered falls 5 3 (set (holding 10 x.0) 11 x.1)) ((2, 0) ∷ (3, 0) ∷ (2, 1) ∷ (1, 0) ∷ (0, 0) ∷ (0, 2) ∷ [])
    ≡ accepted 0 ∷ accepted 0 ∷ replicate 4 (refused 14 5)
shows_bindings_of_5 = unfold everything in refl

-- "each bound register exists": in a design without registers byte 0 is none
shows_no_register_bound
    : map
    (λ (x : ℕ × ℕ).
    numbers_of
    (run_answer
    (assemble (1 ∷ []) [] (state_record 0 0 0 ∷ state_record 0 0 1 ∷ state_with 0 0 2 1 0 0 0 0 ∷ []) (falls ∷ goes_to 1 ∷ goes_to 1 ∷ []) [])
    (lent_bound [] (x.0 ∷ 1 ∷ 2 ∷ []) (0 ∷ 0 ∷ x.1 ∷ 0 ∷ 0 ∷ 0 ∷ []))
    0))
    ((1, 0) ∷ (2, 0) ∷ (1, 1) ∷ [])
    ≡ accepted 0 ∷ refused 14 2 ∷ refused 14 1 ∷ []
shows_no_register_bound = unfold everything in refl

-- in one pass, at the lowest state: a byte that is none at 1 and p outside at 2; p outside at 2 and a byte that is none at 5; q outside at 4 and a byte at 3
shows_lowest_binding
    : map
    (λ (x : ℕ × List ℕ). numbers_of (run_answer (sound falls) (area 2 x.0 x.1) 0))
    ((3, holding 2 5) ∷ (3, holding 10 5) ∷ (4, set (set (holding 4 1) 8 3) 7 5) ∷ (4, set (holding 4 1) 8 3) ∷ (4, set (holding 4 1) 8 1) ∷ [])
    ≡ refused 14 1 ∷ refused 14 2 ∷ refused 14 3 ∷ refused 14 4 ∷ accepted 0 ∷ []
shows_lowest_binding = unfold everything in refl

-- r1 has 2 bits
abbrev narrow : List ℕ
narrow = one_state (1 ∷ []) (register_record 0 0 0 ∷ width_record 0 0 0 2 ∷ []) 1 (goes_to 1 ∷ []) []

-- "else 14, after the targets": a target of 5 that is unsound comes before a byte of the root that is none; a register's content before both, and both before 15
shows_binding_after_targets
    : numbers_of (run_answer (sound falls) (lent_bound (replicate 20 0) (1 ∷ 1 ∷ 3 ∷ 3 ∷ 4 ∷ 4 ∷ []) (holding 0 5)) 0)
    ∷ numbers_of (run_answer (sound falls) (area 1 3 (holding 0 5)) 1000001)
    ∷ numbers_of (run_answer (sound falls) (area 1 3 (holding 0 4)) 1000001)
    ∷ numbers_of (run_answer narrow (lent_bound (replicate 4 0 ++ (4 ∷ 0 ∷ 0 ∷ 0 ∷ [])) (1 ∷ 1 ∷ []) (9 ∷ replicate 3 0)) 0)
    ∷ []
    ≡ refused 14 5 ∷ refused 14 0 ∷ refused 15 0 ∷ refused 14 1 ∷ []
shows_binding_after_targets = unfold everything in refl

-- "No lent byte changes"; a port write and a reset judge no binding
abbrev wrongly : Lent
wrongly = lent_bound (replicate 20 0) (2 ∷ 1 ∷ 3 ∷ 3 ∷ 4 ∷ 5 ∷ []) (replicate 12 9)

shows_bindings_left
    : told (run (sound falls) wrongly 1) ∷ told (perform (sound falls) wrongly (writes 4 7)) ∷ []
    ≡ (refused 14 0, wrongly) ∷ (accepted 0, lent_bound (replicate 16 0 ++ (7 ∷ 0 ∷ 0 ∷ 0 ∷ [])) (2 ∷ 1 ∷ 3 ∷ 3 ∷ 4 ∷ 5 ∷ []) (replicate 12 9)) ∷ []
shows_bindings_left = unfold everything in refl
