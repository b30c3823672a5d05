-- Laws for the code: a trace in which 23 finds nothing never falls, and the records of a cycle are none, or one more behind others.
use Rattle.std.specs.Prelude.{None}
use Prim.Native.Nat.{ℕ, ◌<◌}
use mathlib.Core.Path.{◌≡◌, refl}
use mathlib.Core.Bool.{Bool, false}
use mathlib.Core.List.{List, [], ◌∷◌, ◌++◌}
use lib.Dec.{eqb}
use lib.ListN.{length, set}
use Rattle.model.proofs.Laws.Booleans.{false_unless_true}
use Rattle.model.proofs.Laws.Equivalences.{equal_iff}
use Rattle.model.proofs.Laws.Indices.{failing_none}
use Rattle.model.specs.Indices.{lowest_failing}
use Rattle.replay_model.specs.declared.TraceRecord.{TraceRecord}
use Rattle.replay_model.specs.Traces.{record_at, kept, records_of_cycle, applied}
use Rattle.replay_model.specs.Calls.{cycle_kept}
use Rattle.replay_model.proofs.Laws.{kept_append, Each, of_none, of_more, each_make, Rising, rising_kept, cycle_iff, applied_append}

-- a trace in which 23 finds nothing
pub rising_found : {trace : List TraceRecord} {n : ℕ} → lowest_failing (cycle_kept trace n) (length trace) ≡ None → Rising n 0 trace
rising_found {trace} {n} e = rising_kept trace n (λ i l. (cycle_iff trace n i).0 (failing_none (cycle_kept trace n) (length trace) e i l))

-- ---- where no record is of a cycle
kept_none : {test : TraceRecord → Bool} {xs : List TraceRecord} → Each (λ r. test r ≡ false) xs → kept test xs ≡ []
unfolding kept
kept_none of_none = refl
kept_none (of_more e h) = rw (e, kept_none h)

pub none_of_cycle : (c : ℕ) (xs : List TraceRecord) → ((k : ℕ) → k < length xs → (record_at xs k).cycle ≡ c → ⊥) → records_of_cycle c xs ≡ []
unfolding records_of_cycle
none_of_cycle c xs other = kept_none (each_make xs (λ k l. false_unless_true (eqb (record_at xs k).cycle c) (λ e. other k l (equal_iff.0 e))))

-- a record of the cycle behind others is applied last
pub applied_next : (c : ℕ) (xs : List TraceRecord) (r : TraceRecord) (start : List ℕ) → r.cycle ≡ c
    → applied (records_of_cycle c (xs ++ r ∷ [])) start ≡ set (applied (records_of_cycle c xs) start) r.register r.value
unfolding records_of_cycle kept applied
applied_next c xs r start same =
    let test : TraceRecord → Bool = λ (q : TraceRecord). eqb q.cycle c in
    let own : kept test (r ∷ []) ≡ r ∷ [] = rw ((equal_iff {a = r.cycle} {b = c}).1 same) in
    rw (kept_append test xs (r ∷ []), own) (applied_append (kept test xs) (r ∷ []) start)
