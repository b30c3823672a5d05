-- 02, E10: a replay by hand, "port writes and single cycles"; and the records of a trace that a level sees.
use Rattle.std.specs.Prelude.{ℕ, zero, suc, List, [], ◌∷◌, ◌++◌, map}
use Rattle.model.specs.Image.{Design}
use Rattle.model.specs.Parties.{Call, writes, runs, register_seen}
use Rattle.replay_model.specs.declared.TraceRecord.{TraceRecord}
use Rattle.replay_model.specs.Traces.{kept, records_of_cycle}

-- the port writes of a cycle's records, and the cycle
unfoldable pub cycle_by_hand : List TraceRecord → ℕ → List Call
cycle_by_hand trace c = map (λ (r : TraceRecord). writes r.register r.value) (records_of_cycle c trace) ++ runs 1 ∷ []

-- n cycles, of which the first has number c
unfoldable pub by_hand : List TraceRecord → ℕ → ℕ → List Call
by_hand trace c zero = []
by_hand trace c (suc n) = cycle_by_hand trace c ++ by_hand trace (suc c) n

-- "the records at or below a level"
unfoldable pub trace_seen : Design → ℕ → List TraceRecord → List TraceRecord
trace_seen d level trace = kept (λ (r : TraceRecord). register_seen d level r.register) trace
