-- 02, E10: "The host's drivers keep the trace as a table of records (cycle from 0, register, value, 32 bits each)". What is applied before a cycle, and what is
-- superseded.
use Rattle.std.specs.Prelude.{ℕ, zero, suc, ◌-◌, Bool, ◌&&◌, ◌||◌, false, cond, List, [], ◌∷◌, map, leb, ltb, eqb, get_or, set}
use Rattle.model.specs.Image.{Design}
use Rattle.model.specs.Machine.{Areas, Cycle, cycle}
use Rattle.replay_model.specs.declared.TraceRecord.{TraceRecord}

-- past the last record
abbrev pub no_record : TraceRecord
no_record = record { cycle = 0; register = 0; value = 0 }

abbrev pub record_at : List TraceRecord → ℕ → TraceRecord
record_at trace i = get_or trace i no_record

-- the records of a list that a test keeps, in their order
unfoldable pub kept : (TraceRecord → Bool) → List TraceRecord → List TraceRecord
kept test [] = []
kept test (r ∷ more) = cond (test r) (r ∷ kept test more) (kept test more)

-- the records of a cycle
unfoldable pub records_of_cycle : ℕ → List TraceRecord → List TraceRecord
records_of_cycle c trace = kept (λ (r : TraceRecord). eqb r.cycle c) trace

-- records are applied one after the other, as port writes: "of two for one cycle and port the later supersedes the earlier"
unfoldable pub applied : List TraceRecord → List ℕ → List ℕ
applied [] values = values
applied (r ∷ more) values = applied more (set values r.register r.value)

-- the areas with the records of cycle c applied
unfoldable pub with_records : List TraceRecord → ℕ → Areas → Areas
with_records trace c areas =
    record { registers = applied (records_of_cycle c trace) areas.registers; targets = areas.targets; bindings = areas.bindings }

-- "Before each of n cycles its records are applied": n cycles, of which the first has number c
unfoldable pub replayed : Design → List TraceRecord → ℕ → ℕ → Areas → List Cycle
replayed d trace c zero areas = []
replayed d trace c (suc n) areas = let first = cycle d (with_records trace c areas) in first ∷ replayed d trace (suc c) n first.after

-- a later record of a list is for the same cycle and port
unfoldable pub has_later : TraceRecord → List TraceRecord → Bool
has_later r [] = false
has_later r (later ∷ more) = (eqb later.cycle r.cycle && eqb later.register r.register) || has_later r more

-- "the answer counts those superseded"
unfoldable pub superseded_in : List TraceRecord → ℕ
superseded_in [] = 0
superseded_in (r ∷ more) = cond (has_later r more) (suc (superseded_in more)) (superseded_in more)

-- ---- a trace that is divided
-- "the trace divided at cycle n"
unfoldable pub trace_part : ℕ → List TraceRecord → List TraceRecord
trace_part n trace = kept (λ (r : TraceRecord). ltb r.cycle n) trace

-- "and its cycles recounted"
unfoldable pub trace_rest : ℕ → List TraceRecord → List TraceRecord
trace_rest n trace =
    map
    (λ (r : TraceRecord). record { cycle = r.cycle - n; register = r.register; value = r.value })
    (kept (λ (r : TraceRecord). leb n r.cycle) trace)
