-- Cases at the boundaries of refusal 22, a number of steps above the count, and of what going back judges before it.
use Prim.Native.Nat.{ℕ}
use mathlib.Core.Path.{◌≡◌, refl}
use mathlib.Core.List.{List, [], ◌∷◌, ◌++◌, map}
use lib.ListN.{replicate}
use Rattle.model.specs.declared.Refusal.TheVariants.{StepsBack}
use Rattle.model.specs.Answers.{Accepted, Refused}
use Rattle.model.specs.Answers.{Numbers, numbers_of}
use Rattle.model.specs.Calls.{Lent}
use Rattle.model.proofs.Opened.{accepted, refused, lent_bound, any_lent, short_lent, long_lent, long_targets}
use Rattle.model.proofs.Designs.{lease}
use Rattle.journal_model.specs.Calls.{steps_answer, step_back_answer, step_back}
use Rattle.journal_model.proofs.Opened.{journalling, lends, told, accepted_with, refused_with, journal_of, spare, after1, after2, saved0, saved1}

-- the lease design with two saved states
abbrev two_saved : List ℕ
two_saved = journal_of 2 (saved0 ∷ saved1 ∷ spare 5 ∷ [])

abbrev back_with : List ℕ → ℕ → Numbers
back_with journal k = numbers_of (step_back_answer lease (lends after2 journal) k)

-- "a k above the count": it answers k up to the count, and 22 at place 0 from there on
shows_up_to_count : map (back_with two_saved) (0 ∷ 1 ∷ 2 ∷ 3 ∷ 4 ∷ []) ≡ accepted 0 ∷ accepted 1 ∷ accepted 2 ∷ refused 22 0 ∷ refused 22 0 ∷ []
shows_up_to_count = unfold journalling in refl

-- the count is the journal's, whatever there is room for
shows_room_is_no_count : map (back_with (journal_of 0 (saved0 ∷ saved1 ∷ []))) (0 ∷ 1 ∷ 2 ∷ []) ≡ accepted 0 ∷ refused 22 0 ∷ refused 22 0 ∷ []
shows_room_is_no_count = unfold journalling in refl

-- a refusal changes no lent byte
shows_steps_refused : told (step_back lease (lends any_lent two_saved) 3) ≡ refused_with 22 0 (lends any_lent two_saved)
shows_steps_refused = unfold journalling in refl

-- "15 sets k no limit": more than 1,000,000 is 22 where so many are not counted, and accepted by this stage where they are
shows_no_15 : map (back_with two_saved) (1000000 ∷ 1000001 ∷ 4294967295 ∷ []) ≡ refused 22 0 ∷ refused 22 0 ∷ refused 22 0 ∷ []
shows_no_15 = unfold journalling in refl

shows_above_a_million
    : map (steps_answer (journal_of 1000001 [])) (1000000 ∷ 1000001 ∷ 1000002 ∷ []) ++ map (steps_answer (journal_of 4294967295 [])) (4294967295 ∷ 4294967296 ∷ [])
    ≡ (Accepted 0 ∷ Accepted 0 ∷ Refused StepsBack 0 ∷ []) ++ (Accepted 0 ∷ Refused StepsBack 0 ∷ [])
shows_above_a_million = unfold journalling in refl

-- "with 22, after 21": a journal under 4 bytes, and one too short for its count, with a k above either
shows_21_before_22
    : back_with (0 ∷ 0 ∷ 0 ∷ []) 1 ∷ back_with (journal_of 2 (saved0 ∷ spare 22 ∷ [])) 3 ∷ back_with (journal_of 2 (saved0 ∷ spare 23 ∷ [])) 3 ∷ []
    ≡ refused 21 0 ∷ refused 21 0 ∷ refused 22 0 ∷ []
shows_21_before_22 = unfold journalling in refl

-- lengths of the areas, either one by a byte, before 21
abbrev lengths_with : Lent → Numbers
lengths_with areas = numbers_of (step_back_answer lease (lends areas (0 ∷ 0 ∷ 0 ∷ [])) 1)

shows_lengths_before_21
    : map lengths_with (short_lent ∷ long_lent ∷ long_targets ∷ lent_bound (replicate 7 9) (replicate 15 9) [] ∷ lent_bound (replicate 8 9) (replicate 14 9) [] ∷ any_lent ∷ [])
    ≡ replicate 5 (refused 14 0) ++ (refused 21 0 ∷ [])
shows_lengths_before_21 = unfold journalling in refl

-- they are judged also where nothing is restored
shows_lengths_of_none : numbers_of (step_back_answer lease (lends long_targets two_saved) 0) ≡ refused 14 0
shows_lengths_of_none = unfold journalling in refl

-- "A call that overwrites whole areas .. judges only their lengths": any bytes in them are no hindrance, and none of them stays
shows_any_areas : told (step_back lease (lends any_lent two_saved) 1) ≡ accepted_with 1 after1 (journal_of 1 (saved0 ∷ saved1 ∷ spare 5 ∷ []))
shows_any_areas = unfold journalling in refl

-- by 0 too, and there all of them stay
shows_any_areas_of_none : told (step_back lease (lends any_lent two_saved) 0) ≡ accepted_with 0 any_lent two_saved
shows_any_areas_of_none = unfold journalling in refl
