-- Cases at the boundaries of refusal 23, a record whose cycle falls or reaches n, and of what is judged before it.
use Prim.Native.Nat.{ℕ}
use mathlib.Core.Path.{◌≡◌, refl}
use mathlib.Core.List.{List, [], ◌∷◌, ◌++◌, map}
use lib.ListN.{replicate}
use Rattle.model.specs.Answers.{Numbers, numbers_of}
use Rattle.model.specs.Calls.{Lent}
use Rattle.model.proofs.Opened.{accepted, refused, told, lent, lent_bound}
use Rattle.model.proofs.Designs.{high_to_low}
use Rattle.replay_model.specs.declared.TraceRecord.{TraceRecord}
use Rattle.replay_model.specs.Calls.{replay_answer, replay}
use Rattle.replay_model.proofs.Opened.{replaying, reading, refused_with, meters, meter_areas, meter_start, answered}

-- records of the port r2 at these cycles
abbrev at_cycles : List ℕ → List TraceRecord
at_cycles cycles = map (λ (c : ℕ). reading c 2 1) cycles

-- what a replay of one record answers, by its cycle
abbrev of_one : ℕ → ℕ → Numbers
of_one n c = answered n (at_cycles (c ∷ []))

-- "cycles that .. reach n": n - 1 is accepted, and n is not, nor the largest of 32 bits
shows_reaches_n : map (of_one 3) (0 ∷ 2 ∷ 3 ∷ 4 ∷ 4294967295 ∷ []) ≡ accepted 0 ∷ accepted 0 ∷ refused 23 0 ∷ refused 23 0 ∷ refused 23 0 ∷ []
shows_reaches_n = unfold replaying in refl

shows_reaches_1 : map (of_one 1) (0 ∷ 1 ∷ []) ≡ accepted 0 ∷ refused 23 0 ∷ []
shows_reaches_1 = unfold replaying in refl

-- with n of 0 no record has a cycle, and no record is no fault
shows_of_none : answered 0 [] ∷ of_one 0 0 ∷ of_one 0 1 ∷ [] ≡ accepted 0 ∷ refused 23 0 ∷ refused 23 0 ∷ []
shows_of_none = unfold replaying in refl

-- "cycles that fall": equal ones and rising ones do not, with a cycle between them or none; by one is enough
shows_falls
    : map (λ (cycles : List ℕ). answered 3 (at_cycles cycles)) ((1 ∷ 1 ∷ []) ∷ (1 ∷ 2 ∷ []) ∷ (0 ∷ 2 ∷ []) ∷ (1 ∷ 0 ∷ []) ∷ (2 ∷ 1 ∷ []) ∷ (2 ∷ 0 ∷ []) ∷ [])
    ≡ accepted 1 ∷ accepted 0 ∷ accepted 0 ∷ refused 23 1 ∷ refused 23 1 ∷ refused 23 1 ∷ []
shows_falls = unfold replaying in refl

-- below the record before it, and not below the first; the place is the record that falls, and not the one before it or behind it
shows_falls_behind : map (λ (cycles : List ℕ). answered 3 (at_cycles cycles)) ((0 ∷ 2 ∷ 1 ∷ []) ∷ (1 ∷ 2 ∷ 1 ∷ 2 ∷ []) ∷ (0 ∷ 1 ∷ 2 ∷ 0 ∷ []) ∷ []) ≡ refused 23 2 ∷ refused 23 2 ∷ refused 23 3 ∷ []
shows_falls_behind = unfold replaying in refl

-- another port's record falls as much
shows_falls_of_ports : answered 3 (reading 1 2 1 ∷ reading 0 3 1 ∷ []) ∷ answered 3 (reading 0 3 1 ∷ reading 1 2 1 ∷ []) ∷ [] ≡ refused 23 1 ∷ accepted 0 ∷ []
shows_falls_of_ports = unfold replaying in refl

-- "at the lowest such record": of two that fall, of two that reach n, and of one of each, in either order
shows_lowest_fall : answered 3 (at_cycles (0 ∷ 2 ∷ 1 ∷ 2 ∷ 0 ∷ [])) ≡ refused 23 2
shows_lowest_fall = unfold replaying in refl

shows_lowest_reaching : answered 3 (at_cycles (0 ∷ 3 ∷ 4 ∷ [])) ≡ refused 23 1
shows_lowest_reaching = unfold replaying in refl

shows_lowest_of_both
    : map (λ (cycles : List ℕ). answered 3 (at_cycles cycles)) ((1 ∷ 0 ∷ 3 ∷ []) ∷ (0 ∷ 3 ∷ 1 ∷ []) ∷ (3 ∷ 0 ∷ []) ∷ (0 ∷ 2 ∷ 1 ∷ 3 ∷ []) ∷ [])
    ≡ refused 23 1 ∷ refused 23 1 ∷ refused 23 0 ∷ refused 23 2 ∷ []
shows_lowest_of_both = unfold replaying in refl

-- "the place .. is the record's number from 0", and not its cycle or register
shows_place_of_23 : map (of_one 5) (5 ∷ 9 ∷ []) ++ (answered 5 (at_cycles (0 ∷ 4 ∷ 4 ∷ 7 ∷ [])) ∷ []) ≡ refused 23 0 ∷ refused 23 0 ∷ refused 23 3 ∷ []
shows_place_of_23 = unfold replaying in refl

-- ---- what comes before
-- "after 15": of 1,000,000 cycles the last has the number 999,999; of more 15 is told, with a record that reaches n, one that falls, and none
shows_15_before_23
    : (of_one 1000000 999999 ∷ of_one 1000000 1000000 ∷ [])
    ++ map (answered 1000001) (at_cycles (1000001 ∷ []) ∷ at_cycles (1 ∷ 0 ∷ []) ∷ at_cycles (1000000 ∷ []) ∷ [] ∷ [])
    ≡ accepted 0 ∷ refused 23 0 ∷ replicate 4 (refused 15 0)
shows_15_before_23 = unfold replaying in refl

-- n has 32 bits, and is not cut
shows_cycles_not_cut : map (λ (n : ℕ). answered n []) (4294967295 ∷ 4294967296 ∷ []) ≡ refused 15 0 ∷ refused 15 0 ∷ []
shows_cycles_not_cut = unfold replaying in refl

-- 14 before 23: a length, a content at its register, a target at its state, a binding at its state
abbrev with_areas : Lent → Numbers
with_areas areas = numbers_of (replay_answer meters areas (at_cycles (1 ∷ 0 ∷ [])) 1)

shows_14_before_23
    : map
    with_areas
    (lent (replicate 19 0) (1 ∷ 1 ∷ []) ∷ meter_areas 0 0 256 0 0 ∷ lent (replicate 20 0) (1 ∷ 0 ∷ []) ∷ lent_bound (replicate 20 0) (1 ∷ 1 ∷ []) (0 ∷ 0 ∷ 0 ∷ 5 ∷ []) ∷ meter_start ∷ [])
    ≡ refused 14 0 ∷ refused 14 2 ∷ refused 14 1 ∷ refused 14 1 ∷ refused 23 0 ∷ []
shows_14_before_23 = unfold replaying in refl

-- areas are judged as a run judges them, before the first record: a port that the trace would set is no exception
shows_areas_as_lent : numbers_of (replay_answer meters (meter_areas 0 0 256 0 0) (reading 0 2 1 ∷ []) 1) ≡ refused 14 2
shows_areas_as_lent = unfold replaying in refl

-- and the image before all
shows_image_first
    : numbers_of (replay_answer high_to_low (lent [] []) (at_cycles (1 ∷ 0 ∷ [])) 1000001) ∷ numbers_of (replay_answer [] (lent [] []) [] 0) ∷ []
    ≡ refused 10 1 ∷ refused 1 0 ∷ []
shows_image_first = unfold replaying in refl

-- ---- a refusal changes no lent byte and counts nothing: two are superseded before the record that falls
shows_23_leaves
    : told (replay meters (meter_areas 1 2 3 4 5) (reading 0 2 7 ∷ reading 1 2 8 ∷ reading 1 2 9 ∷ reading 1 2 10 ∷ reading 0 2 11 ∷ []) 2)
    ≡ refused_with 23 4 (meter_areas 1 2 3 4 5)
shows_23_leaves = unfold replaying in refl
