-- Cases at the boundaries of refusal 14 of a saved state: which one is judged, by what, at which place and when.
use Prim.Native.Nat.{ℕ}
use mathlib.Core.Path.{◌≡◌, refl}
use mathlib.Core.List.{List, [], ◌∷◌, ◌++◌, map}
use Rattle.model.specs.Answers.{Numbers, numbers_of}
use Rattle.model.specs.Calls.{Lent, run_answer}
use Rattle.model.proofs.Opened.{accepted, refused, judged}
use Rattle.model.proofs.Designs.{assemble, chain, register_record, width_record, state_record, state_with, falls, goes_to}
use Rattle.journal_model.specs.Calls.{run_journalled, step_back_answer, step_back}
use Rattle.journal_model.proofs.Opened.{journalling, lends, told, accepted_with, refused_with, journal_of, spare}

-- r0 has label 0, and r1 has label 1 and 2 bits. States 1 and 2 below the root; 2 has a parameter from label 1 to label 1.
abbrev narrow : List ℕ
narrow =
    assemble
    chain
    (register_record 0 0 0 ∷ width_record 1 0 0 2 ∷ [])
    (state_record 0 0 0 ∷ state_record 0 0 1 ∷ state_with 0 0 2 1 1 1 0 0 ∷ [])
    (falls ∷ goes_to 1 ∷ goes_to 1 ∷ [])
    []

shows_narrow_accepted : judged narrow ≡ accepted 0
shows_narrow_accepted = unfold journalling in refl

-- the value of r1, the targets of the root and of 2, and the byte that is bound to 2
abbrev registers : ℕ → List ℕ
registers value = 0 ∷ 0 ∷ 0 ∷ 0 ∷ value ∷ 0 ∷ 0 ∷ 0 ∷ []

abbrev targets : ℕ → ℕ → ℕ → List ℕ
targets root two bound = root ∷ 1 ∷ two ∷ 0 ∷ 0 ∷ 0 ∷ 0 ∷ bound ∷ 0 ∷ []

abbrev areas : ℕ → ℕ → ℕ → ℕ → Lent
areas value root two bound = record { registers = registers value; targets = targets root two bound }

abbrev saved : ℕ → ℕ → ℕ → ℕ → List ℕ
saved value root two bound = registers value ++ targets root two bound

-- what going back to the state answers, and what a run of it as areas would
abbrev back_to : ℕ → ℕ → ℕ → ℕ → Numbers
back_to value root two bound = numbers_of (step_back_answer narrow (lends (areas 0 1 2 0) (journal_of 1 (saved value root two bound ∷ []))) 1)

abbrev run_of : ℕ → ℕ → ℕ → ℕ → Numbers
run_of value root two bound = numbers_of (run_answer narrow (areas value root two bound) 0)

-- "A saved state to be restored that is not sound is 14": a content, at its register
shows_saved_content : map (λ (v : ℕ). back_to v 1 2 0) (3 ∷ 4 ∷ 255 ∷ []) ≡ accepted 1 ∷ refused 14 1 ∷ refused 14 1 ∷ []
shows_saved_content = unfold journalling in refl

-- a target, at its state: of the root, and of 2, which has no child
shows_saved_target
    : map (λ (root : ℕ). back_to 0 root 2 1) (0 ∷ 1 ∷ 2 ∷ 3 ∷ []) ++ map (λ (two : ℕ). back_to 0 1 two 1) (0 ∷ 1 ∷ 2 ∷ [])
    ≡ (refused 14 0 ∷ accepted 1 ∷ accepted 1 ∷ refused 14 0 ∷ []) ++ (refused 14 2 ∷ refused 14 2 ∷ accepted 1 ∷ [])
shows_saved_target = unfold journalling in refl

-- a binding, at its state: any register off the path, and r1 alone on it
shows_saved_binding
    : map (λ (bound : ℕ). back_to 0 1 2 bound) (0 ∷ 1 ∷ 2 ∷ []) ++ map (λ (bound : ℕ). back_to 0 2 2 bound) (0 ∷ 1 ∷ 2 ∷ [])
    ≡ (accepted 1 ∷ accepted 1 ∷ refused 14 2 ∷ []) ++ (refused 14 2 ∷ accepted 1 ∷ refused 14 2 ∷ [])
shows_saved_binding = unfold journalling in refl

-- in the order of a run: contents, targets, bindings; the same places as there
shows_saved_order
    : (back_to 4 0 1 2 ∷ run_of 4 0 1 2 ∷ []) ++ (back_to 0 1 1 2 ∷ run_of 0 1 1 2 ∷ []) ++ (back_to 0 0 1 2 ∷ run_of 0 0 1 2 ∷ []) ++ (back_to 0 1 2 2 ∷ run_of 0 1 2 2 ∷ [])
    ≡ (refused 14 1 ∷ refused 14 1 ∷ []) ++ (refused 14 2 ∷ refused 14 2 ∷ []) ++ (refused 14 0 ∷ refused 14 0 ∷ []) ++ (refused 14 2 ∷ refused 14 2 ∷ [])
shows_saved_order = unfold journalling in refl

-- the state "to be restored" alone is judged: of three the second is unsound
abbrev middle : List ℕ
middle = journal_of 3 (saved 1 1 2 0 ∷ saved 4 1 2 0 ∷ saved 3 1 2 0 ∷ [])

shows_only_restored
    : map (λ (k : ℕ). numbers_of (step_back_answer narrow (lends (areas 0 1 2 0) middle) k)) (0 ∷ 1 ∷ 2 ∷ 3 ∷ []) ≡ accepted 0 ∷ accepted 1 ∷ refused 14 1 ∷ accepted 3 ∷ []
shows_only_restored = unfold journalling in refl

-- a refusal changes no lent byte, and what is lent is not judged but by its lengths
shows_unsound_refused : told (step_back narrow (lends (areas 9 9 9 9) middle) 2) ≡ refused_with 14 1 (lends (areas 9 9 9 9) middle)
shows_unsound_refused = unfold journalling in refl

-- "judged after 22": all that is counted is unsound, and k is above the count
shows_22_before_14
    : map (λ (k : ℕ). numbers_of (step_back_answer narrow (lends (areas 0 1 2 0) (journal_of 2 (spare 34 ∷ []))) k)) (1 ∷ 2 ∷ 3 ∷ []) ≡ refused 14 1 ∷ refused 14 1 ∷ refused 22 0 ∷ []
shows_22_before_14 = unfold journalling in refl

-- and so after 21
shows_21_before_14
    : map (λ (bytes : ℕ). numbers_of (step_back_answer narrow (lends (areas 0 1 2 0) (journal_of 2 (spare bytes ∷ []))) 2)) (33 ∷ 34 ∷ []) ≡ refused 21 0 ∷ refused 14 1 ∷ []
shows_21_before_14 = unfold journalling in refl

-- "With k of 0 nothing changes": saved states and areas that are unsound stay as they are
shows_none_unsound
    : told (step_back narrow (lends (areas 9 9 9 9) (journal_of 2 (spare 34 ∷ []))) 0) ≡ accepted_with 0 (areas 9 9 9 9) (journal_of 2 (spare 34 ∷ []))
shows_none_unsound = unfold journalling in refl

-- a journalled run judges its areas and no saved state
shows_run_judges_areas
    : told (run_journalled narrow (lends (areas 4 1 2 0) (journal_of 1 (spare 34 ∷ []))) 1)
    ∷ told (run_journalled narrow (lends (areas 3 1 2 0) (journal_of 1 (spare 34 ∷ []))) 1)
    ∷ []
    ≡ refused_with 14 1 (lends (areas 4 1 2 0) (journal_of 1 (spare 34 ∷ [])))
    ∷ accepted_with 1 (areas 3 1 2 0) (journal_of 2 (spare 17 ∷ saved 3 1 2 0 ∷ []))
    ∷ []
shows_run_judges_areas = unfold journalling in refl
