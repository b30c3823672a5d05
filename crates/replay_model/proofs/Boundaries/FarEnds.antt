-- Cases at the far ends of numbers: values, registers and cycles of 32 bits, and the last record of a trace.
use mathlib.Core.Path.{◌≡◌, refl}
use mathlib.Core.Bool.{true, false}
use mathlib.Core.List.{[], ◌∷◌, ◌++◌, map}
use lib.ListN.{length, replicate}
use Rattle.model.specs.Parties.{writes, runs}
use Rattle.model.specs.Image.{design_of}
use Rattle.model.proofs.Opened.{told, accepted}
use Rattle.replay_model.specs.Traces.{records_of_cycle, applied, superseded_in, trace_part, trace_rest}
use Rattle.replay_model.specs.Calls.{cycle_kept, register_kept, value_kept, replay}
use Rattle.replay_model.specs.ByHand.{cycle_by_hand, trace_seen}
use Rattle.replay_model.proofs.Opened.{replaying, reading, accepted_with, meters, meter_areas, meter_start, answered}

-- "value, 32 bits": every bit of a reading counts, of the last of 64 registers too
shows_whole_value
    : applied (reading 0 3 4294967295 ∷ reading 0 1 2147483648 ∷ reading 0 2 65536 ∷ []) (0 ∷ 0 ∷ 0 ∷ 0 ∷ []) ∷ applied (reading 0 63 4294967295 ∷ []) (replicate 64 1) ∷ []
    ≡ (0 ∷ 2147483648 ∷ 65536 ∷ 4294967295 ∷ []) ∷ (replicate 63 1 ++ (4294967295 ∷ [])) ∷ []
shows_whole_value = unfold replaying in refl

-- and in the call: the port r3 and the sum r4
shows_whole_value_replayed : told (replay meters meter_start (reading 0 3 2147483648 ∷ []) 1) ≡ accepted_with 0 (meter_areas 4 0 4 2147483648 2147483698)
shows_whole_value_replayed = unfold replaying in refl

-- "cycle from 0", of 32 bits: records whose cycles have the same low bits are of other cycles
shows_high_cycles
    : map (λ c. length (records_of_cycle c (reading 1 2 0 ∷ reading 257 2 0 ∷ reading 65537 2 0 ∷ reading 999999 2 0 ∷ []))) (1 ∷ 257 ∷ 65537 ∷ 999999 ∷ 463 ∷ []) ≡ 1 ∷ 1 ∷ 1 ∷ 1 ∷ 0 ∷ []
shows_high_cycles = unfold replaying in refl

-- "for one cycle and port": not for one low byte or low half of either
shows_high_superseded
    : map
    superseded_in
    ((reading 1 2 0 ∷ reading 257 2 0 ∷ []) ∷ (reading 1 2 0 ∷ reading 65537 2 0 ∷ []) ∷ (reading 1 2 0 ∷ reading 1 258 0 ∷ []) ∷ (reading 999999 63 0 ∷ reading 999999 63 0 ∷ []) ∷ [])
    ≡ 0 ∷ 0 ∷ 0 ∷ 1 ∷ []
shows_high_superseded = unfold replaying in refl

-- a record is superseded by the last of 300, and more than 255 are counted
shows_many_superseded : superseded_in (replicate 300 (reading 0 2 1)) ∷ superseded_in (reading 0 2 1 ∷ replicate 300 (reading 0 3 1) ++ (reading 0 2 1 ∷ [])) ∷ [] ≡ 299 ∷ 300 ∷ []
shows_many_superseded = unfold replaying in refl

-- "cycles that fall or reach n": by all bits of the cycles; the last of three falls from a high cycle
shows_high_falls
    : map (λ trace. cycle_kept trace 1000000 1) ((reading 255 2 0 ∷ reading 256 2 0 ∷ []) ∷ (reading 65536 2 0 ∷ reading 65535 2 0 ∷ []) ∷ (reading 999999 2 0 ∷ reading 1 2 0 ∷ []) ∷ (reading 0 2 0 ∷ reading 2147483648 2 0 ∷ []) ∷ [])
    ≡ true ∷ false ∷ false ∷ false ∷ []
shows_high_falls = unfold replaying in refl

-- "a bad register or value": registers of 32 bits, of which the low bits are a port's; values of which the low bits fit
shows_high_registers
    : map (λ r. register_kept (design_of meters) (reading 0 r 0 ∷ []) 0) (3 ∷ 259 ∷ 65539 ∷ 2147483651 ∷ []) ++ map (λ v. value_kept (design_of meters) (reading 0 2 v ∷ []) 0) (255 ∷ 65536 ∷ 2147483648 ∷ [])
    ≡ true ∷ false ∷ false ∷ false ∷ true ∷ false ∷ false ∷ []
shows_high_registers = unfold replaying in refl

-- the last of 300 records is judged, and its number is its place
shows_record_299
    : map (λ last. answered 1 (replicate 299 (reading 0 2 1) ++ (last ∷ []))) (reading 0 2 1 ∷ reading 1 2 1 ∷ reading 0 5 1 ∷ reading 0 2 256 ∷ [])
    ≡ accepted 299 ∷ record { number = 23; place = 299; count = 0 } ∷ record { number = 13; place = 299; count = 0 } ∷ record { number = 17; place = 299; count = 0 } ∷ []
shows_record_299 = unfold replaying in refl

-- "the trace divided at cycle n and its cycles recounted": at a high cycle, values and registers as they are
shows_high_division
    : trace_part 65536 (reading 65535 2 1 ∷ reading 65536 2 2 ∷ []) ∷ trace_rest 65536 (reading 65535 2 1 ∷ reading 65536 63 4294967295 ∷ reading 999999 3 2 ∷ []) ∷ []
    ≡ (reading 65535 2 1 ∷ []) ∷ (reading 0 63 4294967295 ∷ reading 934463 3 2 ∷ []) ∷ []
shows_high_division = unfold replaying in refl

-- "port writes and single cycles": the write has the register and each bit of the value
shows_high_writes : cycle_by_hand (reading 9 63 4294967295 ∷ []) 9 ≡ writes 63 4294967295 ∷ runs 1 ∷ []
shows_high_writes = unfold replaying in refl

-- "the records at or below a level": the last one
shows_last_record_seen : map (λ level. length (trace_seen (design_of meters) level (reading 0 2 1 ∷ reading 0 2 2 ∷ reading 1 3 3 ∷ []))) (0 ∷ 1 ∷ []) ≡ 2 ∷ 3 ∷ []
shows_last_record_seen = unfold replaying in refl
