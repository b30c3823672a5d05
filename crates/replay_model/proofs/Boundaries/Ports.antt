-- Cases at the boundaries of refusals 13 and 17 of a record: which registers and values are bad, in one pass, at the record's number, after 23.
use Prim.Native.Nat.{ℕ}
use mathlib.Core.Path.{◌≡◌, refl}
use mathlib.Core.List.{List, [], ◌∷◌, map}
use lib.ListN.{replicate}
use Rattle.model.specs.Answers.{Numbers, numbers_of}
use Rattle.model.specs.Calls.{Lent}
use Rattle.model.specs.Parties.{writes, perform}
use Rattle.model.proofs.Opened.{accepted, refused, told, lent}
use Rattle.replay_model.specs.declared.TraceRecord.{TraceRecord}
use Rattle.replay_model.specs.Calls.{replay_answer, replay}
use Rattle.replay_model.proofs.Opened.{replaying, reading, refused_with, meters, meter_areas, meter_start, answered}

-- r2 and r3 are the ports; a good record of cycle 0
abbrev good : TraceRecord
good = reading 0 2 1

-- a register that does not exist, and a value too large for r2
abbrev bad_register : TraceRecord
bad_register = reading 0 5 1

abbrev bad_value : TraceRecord
bad_value = reading 0 2 256

-- ---- each by itself
-- "a bad register": inner ones, the count of registers, one whose low byte is a port's number, and the largest of 32 bits
shows_registers
    : map (λ (r : ℕ). answered 1 (reading 0 r 1 ∷ [])) (0 ∷ 1 ∷ 2 ∷ 3 ∷ 4 ∷ 5 ∷ 258 ∷ 4294967295 ∷ [])
    ≡ refused 13 0 ∷ refused 13 0 ∷ accepted 0 ∷ accepted 0 ∷ replicate 4 (refused 13 0)
shows_registers = unfold replaying in refl

-- also where the value is 0
shows_registers_of_0 : map (λ (r : ℕ). answered 1 (reading 0 r 0 ∷ [])) (0 ∷ 2 ∷ 4 ∷ 5 ∷ []) ≡ refused 13 0 ∷ accepted 0 ∷ refused 13 0 ∷ refused 13 0 ∷ []
shows_registers_of_0 = unfold replaying in refl

-- "or value": at the limit of 8 bits and one above, and of 32 bits
shows_values_of_8_bits : map (λ (v : ℕ). answered 1 (reading 0 2 v ∷ [])) (0 ∷ 255 ∷ 256 ∷ 4294967295 ∷ []) ≡ accepted 0 ∷ accepted 0 ∷ refused 17 0 ∷ refused 17 0 ∷ []
shows_values_of_8_bits = unfold replaying in refl

shows_values_of_32_bits : map (λ (v : ℕ). answered 1 (reading 0 3 v ∷ [])) (0 ∷ 256 ∷ 4294967295 ∷ 4294967296 ∷ []) ≡ accepted 0 ∷ accepted 0 ∷ accepted 0 ∷ refused 17 0 ∷ []
shows_values_of_32_bits = unfold replaying in refl

-- each by the width of its own port: the same value, of r3 before r2 and behind it
shows_own_port : map (answered 1) ((good ∷ reading 0 3 256 ∷ []) ∷ (reading 0 3 256 ∷ bad_value ∷ []) ∷ []) ≡ accepted 0 ∷ refused 17 1 ∷ []
shows_own_port = unfold replaying in refl

-- "13 or 17": one record with both, of an inner register and of none, is 13
shows_both_is_13 : map (λ (r : ℕ). answered 1 (reading 0 r 256 ∷ [])) (0 ∷ 2 ∷ 5 ∷ []) ≡ refused 13 0 ∷ refused 17 0 ∷ refused 13 0 ∷ []
shows_both_is_13 = unfold replaying in refl

-- the number is the one that a port write gives
shows_as_port_writes
    : map (λ (rv : ℕ × ℕ). (answered 1 (reading 0 rv.0 rv.1 ∷ [])).number) ((0, 256) ∷ (2, 255) ∷ (2, 256) ∷ (3, 256) ∷ (4, 0) ∷ (5, 0) ∷ [])
    ≡ map (λ (rv : ℕ × ℕ). (numbers_of (perform meters meter_start (writes rv.0 rv.1)).answer).number) ((0, 256) ∷ (2, 255) ∷ (2, 256) ∷ (3, 256) ∷ (4, 0) ∷ (5, 0) ∷ [])
shows_as_port_writes = unfold replaying in refl

-- ---- "in one pass where the lowest bad record counts"
shows_one_pass
    : map
    (answered 1)
    ((bad_value ∷ bad_register ∷ []) ∷ (bad_register ∷ bad_value ∷ []) ∷ (good ∷ bad_value ∷ bad_register ∷ []) ∷ (good ∷ bad_register ∷ bad_value ∷ []) ∷ [])
    ≡ refused 17 0 ∷ refused 13 0 ∷ refused 17 1 ∷ refused 13 1 ∷ []
shows_one_pass = unfold replaying in refl

-- of two of one kind too
shows_lowest_bad : map (answered 1) ((good ∷ bad_value ∷ bad_value ∷ []) ∷ (good ∷ bad_register ∷ bad_register ∷ []) ∷ []) ≡ refused 17 1 ∷ refused 13 1 ∷ []
shows_lowest_bad = unfold replaying in refl

-- "the place in all three is the record's number from 0": not the register, the cycle or the value
shows_place_of_13
    : map (λ (r : ℕ). answered 2 (good ∷ good ∷ reading 1 r 0 ∷ [])) (0 ∷ 4 ∷ 5 ∷ 4294967295 ∷ []) ≡ replicate 4 (refused 13 2)
shows_place_of_13 = unfold replaying in refl

shows_place_of_17
    : map (answered 2) ((good ∷ good ∷ good ∷ reading 1 2 256 ∷ []) ∷ (reading 1 2 256 ∷ []) ∷ (reading 1 3 4294967296 ∷ []) ∷ []) ≡ refused 17 3 ∷ refused 17 0 ∷ refused 17 0 ∷ []
shows_place_of_17 = unfold replaying in refl

-- a bad record is not saved by one that supersedes it
shows_superseded_judged : map (answered 1) ((bad_value ∷ good ∷ []) ∷ (bad_register ∷ reading 0 5 0 ∷ []) ∷ []) ≡ refused 17 0 ∷ refused 13 0 ∷ []
shows_superseded_judged = unfold replaying in refl

-- of every cycle, the last too
shows_bad_in_last_cycle : map (answered 3) ((reading 2 5 0 ∷ []) ∷ (reading 2 2 256 ∷ []) ∷ []) ≡ refused 13 0 ∷ refused 17 0 ∷ []
shows_bad_in_last_cycle = unfold replaying in refl

-- ---- what comes before
-- "It refuses with 23 ..; a bad register or value is then 13 or 17": the bad register stands in an earlier record, in the same one, and alone
shows_23_before_13
    : map (answered 1) ((bad_register ∷ reading 1 2 1 ∷ []) ∷ (reading 1 5 1 ∷ []) ∷ (bad_register ∷ good ∷ []) ∷ []) ≡ refused 23 1 ∷ refused 23 0 ∷ refused 13 0 ∷ []
shows_23_before_13 = unfold replaying in refl

shows_23_before_17
    : map (answered 1) ((bad_value ∷ reading 1 2 1 ∷ []) ∷ (reading 1 2 256 ∷ []) ∷ (bad_value ∷ good ∷ []) ∷ []) ≡ refused 23 1 ∷ refused 23 0 ∷ refused 17 0 ∷ []
shows_23_before_17 = unfold replaying in refl

-- and a fall, which a bad register stands before
shows_fall_before_13 : answered 2 (reading 1 5 1 ∷ reading 0 2 1 ∷ []) ≡ refused 23 1
shows_fall_before_13 = unfold replaying in refl

-- 15 and 14 before both
shows_15_before_13 : map (answered 1000001) ((bad_register ∷ []) ∷ (bad_value ∷ []) ∷ []) ≡ refused 15 0 ∷ refused 15 0 ∷ []
shows_15_before_13 = unfold replaying in refl

abbrev with_areas : Lent → Numbers
with_areas areas = numbers_of (replay_answer meters areas (bad_register ∷ bad_value ∷ []) 1)

shows_14_before_13 : map with_areas (lent (replicate 20 0) (1 ∷ 0 ∷ []) ∷ meter_areas 0 256 0 0 0 ∷ meter_start ∷ []) ≡ refused 14 1 ∷ refused 14 1 ∷ refused 13 0 ∷ []
shows_14_before_13 = unfold replaying in refl

-- ---- a refusal changes no lent byte and counts nothing: good records stand before the bad one, and two of them are superseded
abbrev three_of_one : TraceRecord → List TraceRecord
three_of_one last = reading 0 2 7 ∷ reading 0 2 8 ∷ reading 0 2 9 ∷ last ∷ []

shows_bad_leaves
    : map (λ (last : TraceRecord). told (replay meters (meter_areas 1 2 3 4 5) (three_of_one last) 2)) (reading 1 0 1 ∷ reading 1 2 256 ∷ [])
    ≡ refused_with 13 3 (meter_areas 1 2 3 4 5) ∷ refused_with 17 3 (meter_areas 1 2 3 4 5) ∷ []
shows_bad_leaves = unfold replaying in refl
