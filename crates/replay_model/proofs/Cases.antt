-- Cases of 02, E10, sentence by sentence: what a replay applies before which cycle, what it leaves, and that by hand and in two parts it comes to the same.
use Prim.Native.Nat.{ℕ}
use mathlib.Core.Path.{◌≡◌, refl}
use mathlib.Core.List.{List, [], ◌∷◌, map}
use Rattle.model.specs.Image.{design_of}
use Rattle.model.specs.Machine.{Cycle}
use Rattle.model.specs.Calls.{Lent, areas_of, run}
use Rattle.model.specs.Parties.{writes, runs, at_end}
use Rattle.model.proofs.Opened.{told, lent, lent_bound, judged, accepted, refused, reset_lent}
use Rattle.model.proofs.Designs.{lease, one_group}
use Rattle.replay_model.specs.declared.TraceRecord.{TraceRecord}
use Rattle.replay_model.specs.Traces.{records_of_cycle, replayed, trace_part, trace_rest}
use Rattle.replay_model.specs.Calls.{replay}
use Rattle.replay_model.specs.ByHand.{by_hand}
use Rattle.replay_model.proofs.Opened.{replaying, reading, accepted_with, meters, meter_areas, meter_start, answered, month}

shows_meters_accepted : judged meters ≡ accepted 0
shows_meters_accepted = unfold replaying in refl

-- ---- what is applied, and when
shows_replay : told (replay meters meter_start month 4) ≡ accepted_with 0 (meter_areas 7 6 7 100 250)
shows_replay = unfold replaying in refl

-- "Before each of n cycles its records are applied": the registers after each cycle. A cycle without records finds the ports as they were.
abbrev registers_after : List TraceRecord → ℕ → ℕ → List (List ℕ)
registers_after trace first n = map (λ (c : Cycle). c.after.registers) (replayed (design_of meters) trace first n (areas_of (design_of meters) meter_start))

shows_before_each_cycle
    : registers_after month 0 4
    ≡ (5 ∷ 0 ∷ 5 ∷ 0 ∷ 50 ∷ []) ∷ (5 ∷ 5 ∷ 5 ∷ 0 ∷ 50 ∷ []) ∷ (6 ∷ 5 ∷ 6 ∷ 100 ∷ 150 ∷ []) ∷ (7 ∷ 6 ∷ 7 ∷ 100 ∷ 250 ∷ []) ∷ []
shows_before_each_cycle = unfold replaying in refl

-- "cycle from 0": a record of cycle 1 comes before the second cycle
shows_cycle_from_0 : registers_after (reading 1 2 9 ∷ []) 0 2 ≡ (4 ∷ 0 ∷ 4 ∷ 0 ∷ 50 ∷ []) ∷ (9 ∷ 4 ∷ 9 ∷ 0 ∷ 50 ∷ []) ∷ []
shows_cycle_from_0 = unfold replaying in refl

-- the records of the last cycle are applied too, and it runs with them
shows_last_cycle
    : map (λ (c : ℕ). told (replay meters meter_start (reading c 2 9 ∷ []) 3)) (0 ∷ 1 ∷ 2 ∷ [])
    ≡ accepted_with 0 (meter_areas 9 9 9 0 50) ∷ accepted_with 0 (meter_areas 9 9 9 0 50) ∷ accepted_with 0 (meter_areas 9 4 9 0 50) ∷ []
shows_last_cycle = unfold replaying in refl

-- "its records": those of the cycle, and none before or behind it, in their order
shows_records_of_cycle
    : map (λ (c : ℕ). records_of_cycle c month) (0 ∷ 1 ∷ 2 ∷ 3 ∷ 4 ∷ [])
    ≡ (reading 0 2 5 ∷ []) ∷ [] ∷ (reading 2 2 6 ∷ reading 2 3 100 ∷ []) ∷ (reading 3 2 7 ∷ []) ∷ [] ∷ []
shows_records_of_cycle = unfold replaying in refl

-- "of two for one cycle and port the later supersedes the earlier, and the answer counts those superseded"
shows_later_stands
    : told (replay meters meter_start (reading 0 2 8 ∷ reading 0 3 10 ∷ reading 0 2 9 ∷ reading 0 3 20 ∷ []) 1) ≡ accepted_with 2 (meter_areas 9 0 9 20 70)
shows_later_stands = unfold replaying in refl

-- without records a replay is a run, but for what it counts; with n of 0 nothing changes
shows_no_records : map (λ (n : ℕ). (replay meters meter_start [] n).lent) (0 ∷ 1 ∷ 3 ∷ []) ≡ map (λ (n : ℕ). (run meters meter_start n).lent) (0 ∷ 1 ∷ 3 ∷ [])
shows_no_records = unfold replaying in refl

shows_none : told (replay meters (meter_areas 1 2 3 4 5) [] 0) ≡ accepted_with 0 (meter_areas 1 2 3 4 5)
shows_none = unfold replaying in refl

-- it goes on from the areas as they are lent, whatever ran before
shows_from_lent : told (replay meters (meter_areas 1 2 3 4 5) (reading 1 3 6 ∷ []) 2) ≡ accepted_with 0 (meter_areas 3 3 3 6 15)
shows_from_lent = unfold replaying in refl

-- targets and bindings too: the lease design goes to 4 where it reads 7 in its second cycle, and in a group the reading of the register bound decides
shows_targets : map (λ (c : ℕ). told (replay lease reset_lent (reading c 1 7 ∷ []) 3)) (1 ∷ 2 ∷ [])
    ≡ accepted_with 0 (lent (1 ∷ 0 ∷ 0 ∷ 0 ∷ 7 ∷ 0 ∷ 0 ∷ 0 ∷ []) (2 ∷ 1 ∷ 3 ∷ 3 ∷ 4 ∷ []))
    ∷ accepted_with 0 (lent (1 ∷ 0 ∷ 0 ∷ 0 ∷ 7 ∷ 0 ∷ 0 ∷ 0 ∷ []) (2 ∷ 1 ∷ 4 ∷ 3 ∷ 4 ∷ []))
    ∷ []
shows_targets = unfold replaying in refl

abbrev group_areas : ℕ → ℕ → ℕ → ℕ → ℕ → ℕ → Lent
group_areas timer mode reading root below bound =
    lent_bound
    (timer ∷ 0 ∷ 0 ∷ 0 ∷ mode ∷ 0 ∷ 0 ∷ 0 ∷ reading ∷ 0 ∷ 0 ∷ 0 ∷ 0 ∷ 0 ∷ 0 ∷ 0 ∷ reading ∷ 0 ∷ 0 ∷ 0 ∷ 0 ∷ 0 ∷ 0 ∷ 0 ∷ [])
    (root ∷ 1 ∷ below ∷ 3 ∷ 4 ∷ [])
    (0 ∷ 0 ∷ 0 ∷ 0 ∷ bound ∷ 0 ∷ 0 ∷ 0 ∷ 0 ∷ 0 ∷ [])

shows_bindings
    : map (λ (trace : List TraceRecord). told (replay one_group (group_areas 3 0 0 1 3 0) trace 2)) ([] ∷ (reading 1 2 7 ∷ []) ∷ [])
    ≡ accepted_with 0 (group_areas 2 1 0 2 4 4) ∷ accepted_with 0 (group_areas 2 1 7 2 3 4) ∷ []
shows_bindings = unfold replaying in refl

-- ---- "The outcome equals port writes and single cycles made by hand."
shows_by_hand
    : by_hand month 0 4 ≡ writes 2 5 ∷ runs 1 ∷ runs 1 ∷ writes 2 6 ∷ writes 3 100 ∷ runs 1 ∷ writes 2 7 ∷ runs 1 ∷ []
shows_by_hand = unfold replaying in refl

shows_same_by_hand : at_end meters meter_start (by_hand month 0 4) ≡ meter_areas 7 6 7 100 250
shows_same_by_hand = unfold replaying in refl

-- the superseded ones are written too, before those that supersede them
shows_superseded_by_hand
    : by_hand (reading 0 2 8 ∷ reading 0 3 10 ∷ reading 0 2 9 ∷ []) 0 1 ≡ writes 2 8 ∷ writes 3 10 ∷ writes 2 9 ∷ runs 1 ∷ []
shows_superseded_by_hand = unfold replaying in refl

-- of no cycle nothing, of no record the cycles alone; from a later cycle on its records and those behind it
shows_none_by_hand : by_hand month 0 0 ∷ by_hand [] 0 3 ∷ by_hand month 3 1 ∷ [] ≡ [] ∷ (runs 1 ∷ runs 1 ∷ runs 1 ∷ []) ∷ (writes 2 7 ∷ runs 1 ∷ []) ∷ []
shows_none_by_hand = unfold replaying in refl

-- ---- "Replaying n cycles and then m, the trace divided at cycle n and its cycles recounted, gives the areas of replaying both together"
-- a record of cycle n - 1 is in the first part, and one of cycle n, as cycle 0, in the second
shows_divided_at_0 : trace_part 0 month ∷ trace_rest 0 month ∷ [] ≡ [] ∷ month ∷ []
shows_divided_at_0 = unfold replaying in refl

shows_divided_at_2
    : trace_part 2 month ∷ trace_rest 2 month ∷ [] ≡ (reading 0 2 5 ∷ []) ∷ (reading 0 2 6 ∷ reading 0 3 100 ∷ reading 1 2 7 ∷ []) ∷ []
shows_divided_at_2 = unfold replaying in refl

shows_divided_at_3
    : trace_part 3 month ∷ trace_rest 3 month ∷ [] ≡ (reading 0 2 5 ∷ reading 2 2 6 ∷ reading 2 3 100 ∷ []) ∷ (reading 0 2 7 ∷ []) ∷ []
shows_divided_at_3 = unfold replaying in refl

shows_divided_at_4 : trace_part 4 month ∷ trace_rest 4 month ∷ [] ≡ month ∷ [] ∷ []
shows_divided_at_4 = unfold replaying in refl

abbrev in_two : ℕ → ℕ → Lent
in_two n m = (replay meters (replay meters meter_start (trace_part n month) n).lent (trace_rest n month) m).lent

shows_both_together
    : in_two 0 4 ∷ in_two 1 3 ∷ in_two 2 2 ∷ in_two 3 1 ∷ in_two 4 0 ∷ []
    ≡ meter_areas 7 6 7 100 250 ∷ meter_areas 7 6 7 100 250 ∷ meter_areas 7 6 7 100 250 ∷ meter_areas 7 6 7 100 250 ∷ meter_areas 7 6 7 100 250 ∷ []
shows_both_together = unfold replaying in refl

-- "where n plus m is allowed": each of the two may be 1,000,000 where the whole is 15
shows_sum_allowed : answered 1000000 [] ∷ answered 1 [] ∷ answered 1000001 [] ∷ [] ≡ accepted 0 ∷ accepted 0 ∷ refused 15 0 ∷ []
shows_sum_allowed = unfold replaying in refl

-- "and the whole trace is not refused": this one falls, and neither of its parts does
abbrev falling : List TraceRecord
falling = reading 1 2 5 ∷ reading 0 2 6 ∷ []

shows_whole_refused
    : answered 2 falling ∷ answered 1 (trace_part 1 falling) ∷ answered 1 (trace_rest 1 falling) ∷ [] ≡ refused 23 1 ∷ accepted 0 ∷ accepted 0 ∷ []
shows_whole_refused = unfold replaying in refl
