-- What the cases are written with: a name that opens the definitions (it stands for all that its `unfolding` line names), short ways to put a case, and a design
-- whose registers show which reading each cycle found.
use Prim.Native.Nat.{ℕ}
use mathlib.Core.List.{List, [], ◌∷◌}
use Rattle.model.specs.Answers.{Numbers, numbers_of}
use Rattle.model.specs.Values.{bytes_of}
use Rattle.model.specs.Calls.{Lent}
use Rattle.model.proofs.Opened.{everything, lent, accepted, refused}
use Rattle.model.proofs.Designs.{one_state, chain, width_record, register_record, assigns, sequences, goes_to, reads, adds}
use Rattle.replay_model.specs.declared.TraceRecord.{TraceRecord}
use Rattle.replay_model.specs.Traces.{kept, records_of_cycle, applied, with_records, replayed, has_later, superseded_in, trace_part, trace_rest}
use Rattle.replay_model.specs.Calls.{cycle_kept, trace_answer, register_kept, value_kept, record_answer, records_answer, replay_answer, replay}
use Rattle.replay_model.specs.ByHand.{cycle_by_hand, by_hand, trace_seen}

unfoldable pub replaying : ℕ
unfolding everything kept records_of_cycle applied with_records replayed has_later superseded_in trace_part trace_rest cycle_kept trace_answer register_kept value_kept record_answer records_answer replay_answer replay cycle_by_hand by_hand trace_seen
replaying = 0

-- a record: cycle, register, value
abbrev pub reading : ℕ → ℕ → ℕ → TraceRecord
reading c r v = record { cycle = c; register = r; value = v }

-- an acceptance with its count and these areas, and a refusal that leaves what was lent
abbrev pub accepted_with : ℕ → Lent → Numbers × Lent
accepted_with count areas = (accepted count, areas)

abbrev pub refused_with : ℕ → ℕ → Lent → Numbers × Lent
refused_with number place areas = (refused number place, areas)

-- r0: the last reading of r2, r1: the one before; r2: a port of 8 bits, all of label 0. r3: a port of 32 bits, r4: the sum of its readings, both of label 1.
-- State 1: r1 := r0; r0 := r2; r4 := r4 + r3; goto 1.
abbrev pub meters : List ℕ
meters =
    one_state
    chain
    (width_record 0 0 0 8 ∷ width_record 0 0 0 8 ∷ width_record 0 1 4 8 ∷ register_record 1 1 0 ∷ register_record 1 0 50 ∷ [])
    7
    (assigns 1 0 ∷ assigns 0 1 ∷ assigns 4 4 ∷ goes_to 1 ∷ sequences 3 4 ∷ sequences 2 5 ∷ sequences 1 6 ∷ [])
    (reads 0 ∷ reads 2 ∷ reads 4 ∷ reads 3 ∷ adds 2 3 ∷ [])

-- its areas, by the values of r0 to r4, and as a reset leaves them
abbrev pub meter_areas : ℕ → ℕ → ℕ → ℕ → ℕ → Lent
meter_areas last earlier low high sum = lent (bytes_of (last ∷ earlier ∷ low ∷ high ∷ sum ∷ [])) (1 ∷ 1 ∷ [])

abbrev pub meter_start : Lent
meter_start = meter_areas 0 0 4 0 50

-- what a replay from there answers
abbrev pub answered : ℕ → List TraceRecord → Numbers
answered n trace = numbers_of (replay_answer meters meter_start trace n)

-- a trace of four cycles: records of the first and of the last, of both ports in one, and a cycle without any
abbrev pub month : List TraceRecord
month = reading 0 2 5 ∷ reading 2 2 6 ∷ reading 2 3 100 ∷ reading 3 2 7 ∷ []
