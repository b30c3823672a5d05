-- Cases of 02, E9, sentence by sentence: what a journalled run saves, what going back restores, and what both leave of the journal.
use Prim.Native.Nat.{ℕ}
use mathlib.Core.Path.{◌≡◌, refl}
use mathlib.Core.List.{List, [], ◌∷◌, ◌++◌, map}
use lib.ListN.{replicate}
use Rattle.model.specs.Calls.{Lent, run}
use Rattle.model.proofs.Opened.{any_lent}
use Rattle.model.proofs.Designs.{lease, one_group, smallest}
use Rattle.journal_model.specs.Calls.{run_journalled, step_back}
use Rattle.journal_model.proofs.Opened.{journalling, lends, told, areas_left, accepted_with, journal_of, spare, lease_areas, lease_saved, after0, after1, after2, after3, after4, saved0, saved1, saved2}

-- an empty journal of the lease design that has room for four cycles and three bytes more
abbrev empty : List ℕ
empty = journal_of 0 (spare 95 ∷ [])

-- ---- a journalled run
-- "saves both areas, registers first, before every cycle into a third lent area, whose first 4 bytes count the saved cycles, oldest first behind them; its other
-- bytes keep their values"
shows_journalled_run
    : told (run_journalled lease (lends after0 empty) 3) ≡ accepted_with 3 after3 (journal_of 3 (saved0 ∷ saved1 ∷ saved2 ∷ spare 26 ∷ []))
shows_journalled_run = unfold journalling in refl

-- "A journalled run is a run": the same answer, and the same areas
shows_is_a_run
    : map (λ (n : ℕ). (run_journalled lease (lends after0 empty) n).answer) (0 ∷ 1 ∷ 4 ∷ []) ≡ map (λ (n : ℕ). (run lease after0 n).answer) (0 ∷ 1 ∷ 4 ∷ [])
shows_is_a_run = unfold journalling in refl

shows_areas_of_a_run
    : map (λ (n : ℕ). areas_left (run_journalled lease (lends after0 empty) n)) (0 ∷ 1 ∷ 4 ∷ []) ≡ after0 ∷ after1 ∷ after4 ∷ []
shows_areas_of_a_run = unfold journalling in refl

-- a run of 0 saves nothing
shows_journalled_none : told (run_journalled lease (lends after1 empty) 0) ≡ accepted_with 0 after1 empty
shows_journalled_none = unfold journalling in refl

-- "its bytes are taken as lent": what is counted is kept byte by byte, sound or not
shows_counted_kept
    : told (run_journalled lease (lends after1 (journal_of 2 (spare 46 ∷ replicate 33 7 ∷ []))) 1)
    ≡ accepted_with 1 after2 (journal_of 3 (spare 46 ∷ saved1 ∷ replicate 10 7 ∷ []))
shows_counted_kept = unfold journalling in refl

-- ---- going back
-- "restores the areas as the journal saved them before the k-th last cycle it counts .. and in the journal only lowers the count, by k"
abbrev three_saved : List ℕ
three_saved = journal_of 3 (saved0 ∷ saved1 ∷ saved2 ∷ spare 26 ∷ [])

shows_back_by_one : told (step_back lease (lends after3 three_saved) 1) ≡ accepted_with 1 after2 (journal_of 2 (saved0 ∷ saved1 ∷ saved2 ∷ spare 26 ∷ []))
shows_back_by_one = unfold journalling in refl

shows_back_by_two : told (step_back lease (lends after3 three_saved) 2) ≡ accepted_with 2 after1 (journal_of 1 (saved0 ∷ saved1 ∷ saved2 ∷ spare 26 ∷ []))
shows_back_by_two = unfold journalling in refl

shows_back_by_all : told (step_back lease (lends after3 three_saved) 3) ≡ accepted_with 3 after0 (journal_of 0 (saved0 ∷ saved1 ∷ saved2 ∷ spare 26 ∷ []))
shows_back_by_all = unfold journalling in refl

-- "With k of 0 nothing changes"
shows_back_by_none : told (step_back lease (lends after3 three_saved) 0) ≡ accepted_with 0 after3 three_saved
shows_back_by_none = unfold journalling in refl

-- "its bytes are taken as lent": a journal that no run has written
shows_by_hand
    : told (step_back lease (lends any_lent (journal_of 1 (lease_saved 200 7 2 4 ∷ []))) 1) ≡ accepted_with 1 (lease_areas 200 7 2 4) (journal_of 0 (lease_saved 200 7 2 4 ∷ []))
shows_by_hand = unfold journalling in refl

-- 4 bytes count: 256 of the smallest design, whose saved states have 6 bytes; one more cycle makes 257, and one back 255
abbrev saved256 : List ℕ
saved256 = 1 ∷ 1 ∷ 0 ∷ 0 ∷ 0 ∷ 0 ∷ []

abbrev smallest_areas : Lent
smallest_areas = record { registers = []; targets = saved256 }

abbrev counts256 : List ℕ
counts256 = 0 ∷ 1 ∷ 0 ∷ 0 ∷ replicate 1542 1

shows_count_of_4_bytes
    : told (run_journalled smallest (lends smallest_areas counts256) 1) ≡ accepted_with 1 smallest_areas (1 ∷ 1 ∷ 0 ∷ 0 ∷ replicate 1536 1 ++ saved256)
shows_count_of_4_bytes = unfold journalling in refl

-- ---- parameters: what is bound stands in the area of the targets, and is saved and restored with it
-- one group, by cycle: the values of r0 and r1 (all others are 0), the root's target, and the register bound to the group
abbrev group_registers : ℕ → ℕ → List ℕ
group_registers timer mode = timer ∷ 0 ∷ 0 ∷ 0 ∷ mode ∷ 0 ∷ 0 ∷ 0 ∷ replicate 16 0

abbrev group_targets : ℕ → ℕ → ℕ → List ℕ
group_targets root below bound = root ∷ 1 ∷ below ∷ 3 ∷ 4 ∷ 0 ∷ 0 ∷ 0 ∷ 0 ∷ bound ∷ 0 ∷ 0 ∷ 0 ∷ 0 ∷ 0 ∷ []

abbrev group_areas : ℕ → ℕ → ℕ → ℕ → ℕ → Lent
group_areas timer mode root below bound = record { registers = group_registers timer mode; targets = group_targets root below bound }

abbrev group_saved : ℕ → ℕ → ℕ → ℕ → ℕ → List ℕ
group_saved timer mode root below bound = group_registers timer mode ++ group_targets root below bound

-- five cycles: r4 is bound by the first and r5 by the fifth
abbrev five_cycles : List (List ℕ)
five_cycles = group_saved 3 0 1 3 0 ∷ group_saved 3 1 2 3 4 ∷ group_saved 2 1 2 4 4 ∷ group_saved 1 1 2 3 4 ∷ group_saved 0 1 1 3 4 ∷ []

shows_bindings_saved
    : told (run_journalled one_group (lends (group_areas 3 0 1 3 0) (journal_of 0 (spare 195 ∷ []))) 5) ≡ accepted_with 5 (group_areas 3 0 2 3 5) (journal_of 5 five_cycles)
shows_bindings_saved = unfold journalling in refl

shows_bindings_restored
    : map (λ (k : ℕ). areas_left (step_back one_group (lends (group_areas 3 0 2 3 5) (journal_of 5 five_cycles)) k)) (0 ∷ 1 ∷ 4 ∷ 5 ∷ [])
    ≡ group_areas 3 0 2 3 5 ∷ group_areas 0 1 1 3 4 ∷ group_areas 3 1 2 3 4 ∷ group_areas 3 0 1 3 0 ∷ []
shows_bindings_restored = unfold journalling in refl
