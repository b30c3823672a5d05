-- Cases at the far ends of numbers: counts of more than one byte, the last of many saved states, and all bits of what is saved.
use Prim.Native.Nat.{ℕ, zero, suc, ◌/◌, ◌%◌}
use mathlib.Core.Path.{◌≡◌, refl}
use mathlib.Core.List.{List, [], ◌∷◌, ◌++◌, map}
use lib.ListN.{length, replicate, take}
use Rattle.model.specs.declared.Refusal.TheVariants.{JournalArea, StepsBack}
use Rattle.model.specs.Answers.{Accepted, Refused}
use Rattle.model.specs.Image.{Design}
use Rattle.journal_model.specs.Journals.{all_saved_bytes, journal_front, journal_with, recounted, saved_in}
use Rattle.journal_model.specs.Calls.{room_answer, steps_answer, saved_back}
use Rattle.journal_model.proofs.Opened.{journalling}

-- no register, and one state: 3 bytes are saved
abbrev least : Design
least = record { rows = []; registers = []; states = record { parent = 0; label = 0; command = 0; parameters = 0; first_lower = 0; first_upper = 0; second_lower = 0; second_upper = 0 } ∷ []; commands = []; expressions = [] }

-- so many saved states, from this number on: its low byte, its high byte, and 9
abbrev numbered : ℕ → ℕ → List ℕ
numbered n zero = []
numbered n (suc more) = n % 256 ∷ n / 256 ∷ 9 ∷ numbered (suc n) more

-- 300 saved states: the count has two bytes
abbrev three_hundred : List ℕ
three_hundred = 44 ∷ 1 ∷ 0 ∷ 0 ∷ numbered 0 300

-- "before the k-th last cycle it counts": the last, the 44th last and the first of 300
shows_back_of_300
    : map (λ k. (saved_back least three_hundred k).targets) (1 ∷ 44 ∷ 300 ∷ []) ≡ (43 ∷ 1 ∷ 9 ∷ []) ∷ (0 ∷ 1 ∷ 9 ∷ []) ∷ (0 ∷ 0 ∷ 9 ∷ []) ∷ []
shows_back_of_300 = unfold journalling in refl

-- all that is counted is there
shows_saved_of_300 : length (saved_in least three_hundred) ≡ 300
shows_saved_of_300 = unfold journalling in refl

-- "whose first 4 bytes count": of 300 saved states, and each byte of a lowered count
shows_count_of_300 : take 4 (journal_front (replicate 300 (record { registers = []; targets = [] }))) ≡ 44 ∷ 1 ∷ 0 ∷ 0 ∷ []
shows_count_of_300 = unfold journalling in refl

shows_recounted_bytes : map (λ n. recounted n (1 ∷ 2 ∷ 3 ∷ 4 ∷ 5 ∷ [])) (300 ∷ 65536 ∷ 4294967294 ∷ []) ≡ (44 ∷ 1 ∷ 0 ∷ 0 ∷ 5 ∷ []) ∷ (0 ∷ 0 ∷ 1 ∷ 0 ∷ 5 ∷ []) ∷ (254 ∷ 255 ∷ 255 ∷ 255 ∷ 5 ∷ []) ∷ []
shows_recounted_bytes = unfold journalling in refl

-- "its other bytes keep their values": the last of them
shows_last_byte_kept : journal_with (record { registers = 1 ∷ []; targets = 2 ∷ [] } ∷ []) (replicate 300 9 ++ (7 ∷ [])) ≡ 1 ∷ 0 ∷ 0 ∷ 0 ∷ 1 ∷ 2 ∷ replicate 294 9 ++ (7 ∷ [])
shows_last_byte_kept = unfold journalling in refl

-- the last byte of each area is saved and read, also of 64 registers
shows_last_bytes_saved : all_saved_bytes (record { registers = 1 ∷ 255 ∷ []; targets = 2 ∷ 254 ∷ [] } ∷ record { registers = 253 ∷ []; targets = 252 ∷ [] } ∷ []) ≡ 1 ∷ 255 ∷ 2 ∷ 254 ∷ 253 ∷ 252 ∷ []
shows_last_bytes_saved = unfold journalling in refl

-- "a k above the count": by all bits of both
shows_high_steps : map (steps_answer three_hundred) (300 ∷ 256 ∷ 44 ∷ 4294967295 ∷ 65536 ∷ []) ≡ Accepted 0 ∷ Accepted 0 ∷ Accepted 0 ∷ Refused StepsBack 0 ∷ Refused StepsBack 0 ∷ []
shows_high_steps = unfold journalling in refl

-- "too short for its count and the cycles to run": by both bytes of the count
shows_room_of_300 : map (room_answer least three_hundred) (0 ∷ 1 ∷ []) ≡ Accepted 0 ∷ Refused JournalArea 0 ∷ []
shows_room_of_300 = unfold journalling in refl
