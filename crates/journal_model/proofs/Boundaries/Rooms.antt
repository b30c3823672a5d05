-- Cases at the boundaries of refusal 21, a journal without room, and of what a journalled run judges before it.
use Prim.Native.Nat.{ℕ, ◌+◌, ◌-◌, ◌*◌, ◌^◌}
use mathlib.Core.Path.{◌≡◌, refl}
use mathlib.Core.Bool.{true, false}
use mathlib.Core.List.{List, [], ◌∷◌, map}
use lib.ListN.{replicate}
use Rattle.model.specs.declared.Refusal.TheVariants.{JournalArea}
use Rattle.model.specs.Image.{design_of}
use Rattle.model.specs.Answers.{Refused, Numbers, numbers_of}
use Rattle.model.specs.Calls.{Lent}
use Rattle.model.proofs.Opened.{accepted, refused, lent, short_lent, unsound_lent}
use Rattle.model.proofs.Designs.{lease, one_group, two_groups, smallest, high_to_low}
use Rattle.journal_model.specs.Journals.{count_in, saved_length, has_room}
use Rattle.journal_model.specs.Calls.{room_answer, run_journalled_answer, run_journalled, step_back_answer, step_back}
use Rattle.journal_model.proofs.Opened.{journalling, lends, told, accepted_with, refused_with, journal_of, spare, after0, after2, saved0, saved1}

-- what the two calls answer of the lease design with this journal
abbrev run_with : List ℕ → ℕ → Numbers
run_with journal n = numbers_of (run_journalled_answer lease (lends after0 journal) n)

abbrev back_with : List ℕ → ℕ → Numbers
back_with journal k = numbers_of (step_back_answer lease (lends after0 journal) k)

-- "a journal under 4 bytes": also for 0 cycles, and for going back by 0
shows_under_4_bytes
    : map (λ (bytes : ℕ). run_with (replicate bytes 0) 0) (0 ∷ 1 ∷ 3 ∷ 4 ∷ 5 ∷ []) ≡ refused 21 0 ∷ refused 21 0 ∷ refused 21 0 ∷ accepted 0 ∷ accepted 0 ∷ []
shows_under_4_bytes = unfold journalling in refl

shows_under_4_bytes_back
    : map (λ (bytes : ℕ). back_with (replicate bytes 0) 0) (0 ∷ 1 ∷ 3 ∷ 4 ∷ 5 ∷ []) ≡ refused 21 0 ∷ refused 21 0 ∷ refused 21 0 ∷ accepted 0 ∷ accepted 0 ∷ []
shows_under_4_bytes_back = unfold journalling in refl

-- the bytes of a saved state: 4 for each register, and 3 for each state
shows_saved_lengths : map (λ (image : List ℕ). saved_length (design_of image)) (lease ∷ one_group ∷ two_groups ∷ smallest ∷ []) ≡ 23 ∷ 39 ∷ 40 ∷ 6 ∷ []
shows_saved_lengths = unfold journalling in refl

-- "whose first 4 bytes count", little-endian, and none but these
shows_count : map count_in ((1 ∷ 2 ∷ 3 ∷ 4 ∷ 5 ∷ 6 ∷ []) ∷ (255 ∷ 255 ∷ 255 ∷ 255 ∷ []) ∷ []) ≡ 67305985 ∷ 4294967295 ∷ []
shows_count = unfold journalling in refl

-- "too short for its count and the cycles to run": of its own count alone, here 2, one byte less, the exact length and one more
shows_room_for_count
    : map (λ (bytes : ℕ). run_with (journal_of 2 (spare bytes ∷ [])) 0) (0 ∷ 45 ∷ 46 ∷ 47 ∷ []) ≡ refused 21 0 ∷ refused 21 0 ∷ accepted 0 ∷ accepted 0 ∷ []
shows_room_for_count = unfold journalling in refl

shows_room_for_count_back
    : map (λ (bytes : ℕ). back_with (journal_of 2 (spare bytes ∷ [])) 0) (0 ∷ 45 ∷ 46 ∷ 47 ∷ []) ≡ refused 21 0 ∷ refused 21 0 ∷ accepted 0 ∷ accepted 0 ∷ []
shows_room_for_count_back = unfold journalling in refl

-- of the cycles to run alone, and of both
shows_room_for_cycles
    : map (λ (bytes : ℕ). run_with (journal_of 0 (spare bytes ∷ [])) 3) (0 ∷ 68 ∷ 69 ∷ 70 ∷ []) ≡ refused 21 0 ∷ refused 21 0 ∷ accepted 3 ∷ accepted 3 ∷ []
shows_room_for_cycles = unfold journalling in refl

shows_room_for_both
    : map (λ (bytes : ℕ). run_with (journal_of 1 (spare bytes ∷ [])) 2) (46 ∷ 68 ∷ 69 ∷ 70 ∷ []) ≡ refused 21 0 ∷ refused 21 0 ∷ accepted 2 ∷ accepted 2 ∷ []
shows_room_for_both = unfold journalling in refl

-- a refusal changes no lent byte; with exact room the last byte is written
shows_room_refused : told (run_journalled lease (lends after0 (journal_of 0 (spare 45 ∷ []))) 2) ≡ refused_with 21 0 (lends after0 (journal_of 0 (spare 45 ∷ [])))
shows_room_refused = unfold journalling in refl

shows_room_exact : told (run_journalled lease (lends after0 (journal_of 0 (spare 46 ∷ []))) 2) ≡ accepted_with 2 after2 (journal_of 2 (saved0 ∷ saved1 ∷ []))
shows_room_exact = unfold journalling in refl

shows_back_refused : told (step_back lease (lends after0 (journal_of 2 (saved0 ∷ spare 22 ∷ []))) 1) ≡ refused_with 21 0 (lends after0 (journal_of 2 (saved0 ∷ spare 22 ∷ [])))
shows_back_refused = unfold journalling in refl

-- going back needs room for what is counted, and for no cycle more
shows_no_cycles_back : back_with (journal_of 1 (saved0 ∷ [])) 1 ≡ accepted 1
shows_no_cycles_back = unfold journalling in refl

-- "or whose new count passes 32 bits": by numbers, since such a journal is too long for a case; one byte less is too short
shows_largest_count
    : has_room 23 (2 ^ 32 - 1) (4 + 23 * (2 ^ 32 - 1)) ∷ has_room 23 (2 ^ 32) (4 + 23 * 2 ^ 32) ∷ has_room 23 (2 ^ 32 - 1) (3 + 23 * (2 ^ 32 - 1)) ∷ has_room 6 (2 ^ 32 + 1) (2 ^ 64) ∷ []
    ≡ true ∷ false ∷ false ∷ false ∷ []
shows_largest_count = unfold journalling in refl

-- the new count, of what is counted and the cycles, is not cut to 32 bits: a count of 2 to the power of 32, less 1, and a cycle do not make 0
shows_count_not_cut : map (room_answer (design_of lease) (255 ∷ 255 ∷ 255 ∷ 255 ∷ [])) (0 ∷ 1 ∷ 2 ∷ []) ≡ Refused JournalArea 0 ∷ Refused JournalArea 0 ∷ Refused JournalArea 0 ∷ []
shows_count_not_cut = unfold journalling in refl

-- each byte of the count counts
shows_each_byte_counts
    : map (λ (journal : List ℕ). run_with journal 0) ((0 ∷ 1 ∷ 0 ∷ 0 ∷ spare 23) ∷ (0 ∷ 0 ∷ 1 ∷ 0 ∷ spare 23) ∷ (0 ∷ 0 ∷ 0 ∷ 1 ∷ spare 23) ∷ (1 ∷ 0 ∷ 0 ∷ 0 ∷ spare 23) ∷ [])
    ≡ refused 21 0 ∷ refused 21 0 ∷ refused 21 0 ∷ accepted 0 ∷ []
shows_each_byte_counts = unfold journalling in refl

-- room for 1,000,000 cycles and for none more; "after 15": of more cycles than a run takes 15 is told
shows_room_for_a_million : map (has_room 23 1000000) (23000003 ∷ 23000004 ∷ []) ≡ false ∷ true ∷ []
shows_room_for_a_million = unfold journalling in refl

shows_15_before_21 : map (run_with []) (1000000 ∷ 1000001 ∷ []) ≡ refused 21 0 ∷ refused 15 0 ∷ []
shows_15_before_21 = unfold journalling in refl

-- 14 before 21: lengths, and targets at the lowest state
shows_14_before_21
    : map (λ (areas : Lent). numbers_of (run_journalled_answer lease (lends areas []) 0)) (short_lent ∷ unsound_lent ∷ after0 ∷ []) ≡ refused 14 0 ∷ refused 14 2 ∷ refused 21 0 ∷ []
shows_14_before_21 = unfold journalling in refl

-- and the image before all
shows_image_first
    : numbers_of (run_journalled_answer high_to_low (lends (lent [] []) []) 1000001) ∷ numbers_of (step_back_answer high_to_low (lends (lent [] []) []) 1) ∷ numbers_of (step_back_answer [] (lends (lent [] []) []) 0) ∷ []
    ≡ refused 10 1 ∷ refused 10 1 ∷ refused 1 0 ∷ []
shows_image_first = unfold journalling in refl
