-- Cases at the boundaries of what is superseded: which records are counted, and which value stands.
use Prim.Native.Nat.{ℕ}
use mathlib.Core.Path.{◌≡◌, refl}
use mathlib.Core.List.{List, [], ◌∷◌, map}
use Rattle.model.specs.Machine.{Areas}
use Rattle.model.proofs.Opened.{accepted, told}
use Rattle.replay_model.specs.declared.TraceRecord.{TraceRecord}
use Rattle.replay_model.specs.Traces.{with_records, superseded_in}
use Rattle.replay_model.specs.Calls.{replay}
use Rattle.replay_model.proofs.Opened.{replaying, reading, accepted_with, meters, meter_areas, meter_start, answered}

-- records by cycle and port alone; each has another value
abbrev low : ℕ → ℕ → TraceRecord
low c v = reading c 2 v

abbrev high : ℕ → ℕ → TraceRecord
high c v = reading c 3 v

-- "the answer counts those superseded": of one record none, of two for one cycle and port one, of three two, of four three
shows_of_one_port
    : map (answered 2) ([] ∷ (low 0 1 ∷ []) ∷ (low 0 1 ∷ low 0 2 ∷ []) ∷ (low 0 1 ∷ low 0 2 ∷ low 0 3 ∷ []) ∷ (low 1 1 ∷ low 1 2 ∷ low 1 3 ∷ low 1 4 ∷ []) ∷ [])
    ≡ accepted 0 ∷ accepted 0 ∷ accepted 1 ∷ accepted 2 ∷ accepted 3 ∷ []
shows_of_one_port = unfold replaying in refl

-- "for one cycle and port": two ports of one cycle, and one port in two cycles, supersede nothing
shows_of_two_ports : map (answered 2) ((low 0 1 ∷ high 0 2 ∷ []) ∷ (high 0 1 ∷ low 0 2 ∷ []) ∷ []) ≡ accepted 0 ∷ accepted 0 ∷ []
shows_of_two_ports = unfold replaying in refl

shows_of_two_cycles : map (answered 3) ((low 0 1 ∷ low 1 2 ∷ []) ∷ (low 0 1 ∷ low 1 1 ∷ low 2 1 ∷ []) ∷ []) ≡ accepted 0 ∷ accepted 0 ∷ []
shows_of_two_cycles = unfold replaying in refl

-- records of another port between them do not matter
shows_alternating
    : map (answered 1) ((low 0 1 ∷ high 0 2 ∷ low 0 3 ∷ high 0 4 ∷ []) ∷ (low 0 1 ∷ high 0 2 ∷ low 0 3 ∷ []) ∷ (low 0 1 ∷ low 0 2 ∷ high 0 3 ∷ high 0 4 ∷ []) ∷ [])
    ≡ accepted 2 ∷ accepted 1 ∷ accepted 2 ∷ []
shows_alternating = unfold replaying in refl

-- each cycle counts by itself, and the answer has the sum
shows_each_cycle
    : map (answered 2) ((low 0 1 ∷ low 0 2 ∷ low 1 3 ∷ low 1 4 ∷ []) ∷ (low 0 1 ∷ low 1 2 ∷ low 1 3 ∷ []) ∷ (low 0 1 ∷ low 0 2 ∷ low 1 3 ∷ []) ∷ [])
    ≡ accepted 2 ∷ accepted 1 ∷ accepted 1 ∷ []
shows_each_cycle = unfold replaying in refl

-- a record is superseded by an equal one too, and by the value that the port has already
shows_equal_values : map (answered 1) ((low 0 1 ∷ low 0 1 ∷ []) ∷ (low 0 9 ∷ low 0 4 ∷ []) ∷ (low 0 4 ∷ []) ∷ []) ≡ accepted 1 ∷ accepted 1 ∷ accepted 0 ∷ []
shows_equal_values = unfold replaying in refl

-- the count is not of cycles, nor of records
shows_counts_neither : map (λ (n : ℕ). answered n (low 0 1 ∷ low 0 2 ∷ high 0 3 ∷ [])) (1 ∷ 2 ∷ 9 ∷ []) ≡ accepted 1 ∷ accepted 1 ∷ accepted 1 ∷ []
shows_counts_neither = unfold replaying in refl

-- by the cycle and the register alone: register and cycle are not taken for each other
shows_no_mixing : map superseded_in ((reading 2 3 1 ∷ reading 3 2 1 ∷ []) ∷ (reading 2 2 1 ∷ reading 2 3 1 ∷ reading 3 3 1 ∷ []) ∷ []) ≡ 0 ∷ 0 ∷ []
shows_no_mixing = unfold replaying in refl

-- "the later supersedes the earlier": the last of three, whatever the values' order, and the cycle runs with it
shows_last_of_three
    : map (λ (trace : List TraceRecord). told (replay meters meter_start trace 1)) ((low 0 7 ∷ low 0 8 ∷ low 0 9 ∷ []) ∷ (low 0 9 ∷ low 0 8 ∷ low 0 7 ∷ []) ∷ (low 0 8 ∷ low 0 9 ∷ low 0 4 ∷ []) ∷ [])
    ≡ accepted_with 2 (meter_areas 9 0 9 0 50) ∷ accepted_with 2 (meter_areas 7 0 7 0 50) ∷ accepted_with 2 (meter_areas 4 0 4 0 50) ∷ []
shows_last_of_three = unfold replaying in refl

-- one cycle runs for all the records of a cycle, and not one for each
shows_one_cycle : told (replay meters meter_start (high 0 10 ∷ high 0 20 ∷ low 0 9 ∷ []) 2) ≡ accepted_with 1 (meter_areas 9 9 9 20 90)
shows_one_cycle = unfold replaying in refl

-- the records set registers, and leave targets and bindings
abbrev some_areas : Areas
some_areas = record { registers = 10 ∷ 11 ∷ 12 ∷ 13 ∷ 14 ∷ []; targets = 1 ∷ 2 ∷ []; bindings = 3 ∷ 4 ∷ [] }

shows_with_records
    : map (λ (c : ℕ). with_records (low 1 5 ∷ high 1 6 ∷ low 2 7 ∷ []) c some_areas) (0 ∷ 1 ∷ 2 ∷ [])
    ≡ some_areas
    ∷ record { registers = 10 ∷ 11 ∷ 5 ∷ 6 ∷ 14 ∷ []; targets = 1 ∷ 2 ∷ []; bindings = 3 ∷ 4 ∷ [] }
    ∷ record { registers = 10 ∷ 11 ∷ 7 ∷ 13 ∷ 14 ∷ []; targets = 1 ∷ 2 ∷ []; bindings = 3 ∷ 4 ∷ [] }
    ∷ []
shows_with_records = unfold replaying in refl
