-- A replay by its records: where cycles never fall, each record comes behind the cycles before it, and only cycles without records come behind the last. So what is applied
-- record by record is what is applied cycle by cycle.
use Prim.Native.Nat.{ℕ, zero, suc, ◌+◌, ◌-◌, ◌≤◌, ◌<◌}
use mathlib.Core.Path.{◌≡◌, refl, ◌∙◌, ap}
use mathlib.Core.List.{List, [], ◌∷◌, ◌++◌, append-nil}
use native.Mathlib.Omega.{arith}
use native.Mathlib.Numerals.{add-one}
use lib.Dec.{eqb}
use lib.ListN.{length, set, take, length-take}
use lib.Seq.{take-length, take-suc, get_or-take}
use Rattle.model.specs.Image.{Design as Table}
use Rattle.model.specs.Machine.{Areas, cycle, after_last, after_cycles}
use Rattle.model.proofs.Laws.Cycles.{after_first, after_none}
use Rattle.replay_model.specs.declared.TraceRecord.{TraceRecord}
use Rattle.replay_model.specs.Traces.{no_record, record_at, kept, records_of_cycle, applied, with_records, replayed}
use Rattle.replay_model.proofs.Laws.{Each, of_none, each_at, each_make, Rising, rising_below, rising_between, kept_append, replayed_next, replayed_same}
use Rattle.replay_model.proofs.Applied.{none_of_cycle, applied_next}
use Rattle.replay_steps.specs.Replaying.{stepped, done_before, replayed_to}

-- ---- cycles of which there are no records
-- every record is of an earlier cycle
abbrev Earlier : ℕ → List TraceRecord → Type 0
Earlier c = Each (λ r. r.cycle < c)

earlier_still : {xs : List TraceRecord} (c e : ℕ) → c ≤ e → Earlier c xs → Earlier e xs
earlier_still {xs} c e l earlier = each_make xs (λ k inside. let below = each_at earlier k inside in omega arith)

no_records : (c : ℕ) {xs : List TraceRecord} → Earlier c xs → (areas : Areas) → with_records xs c areas ≡ areas
unfolding with_records applied
no_records c {xs} earlier areas = rw (none_of_cycle c xs (λ k l same. let below = each_at earlier k l in omega arith))

-- a record of a later cycle
records_before : (c : ℕ) (xs : List TraceRecord) (r : TraceRecord) → c < r.cycle → records_of_cycle c (xs ++ r ∷ []) ≡ records_of_cycle c xs
unfolding records_of_cycle
records_before c xs r l =
    kept_append (λ (q : TraceRecord). eqb q.cycle c) xs (r ∷ [])
    ∙ ap (λ (rest : List TraceRecord). records_of_cycle c xs ++ rest) (none_of_cycle c (r ∷ []) other)
    ∙ append-nil (records_of_cycle c xs)
  where
    other : (k : ℕ) → k < length (r ∷ []) → (record_at (r ∷ []) k).cycle ≡ c → ⊥
    other zero inside same = omega arith
    other (suc k) inside same = omega arith

-- ---- the areas as a cycle begins
module _ (d : Table) (areas : Areas) where
  -- with its records applied
  unfoldable beginning : List TraceRecord → ℕ → Areas
  beginning xs c = with_records xs c (after_last areas (replayed d xs 0 c areas))

  beginning_next : (c : ℕ) {xs : List TraceRecord} → Earlier (suc c) xs → beginning xs (suc c) ≡ (cycle d (beginning xs c)).after
  unfolding beginning
  beginning_next c {xs} earlier =
      let none : 0 + c ≡ c = omega arith in
      no_records (suc c) earlier (after_last areas (replayed d xs 0 (suc c) areas)) ∙ (rw (add-one c, none) at (replayed_next d xs 0 c areas))

  -- cycles without records
  beginning_later : (m c : ℕ) {xs : List TraceRecord} → Earlier (suc c) xs → after_cycles d m (beginning xs c) ≡ beginning xs (c + m)
  beginning_later zero c {xs} earlier = let same : c + 0 ≡ c = omega arith in rw same (after_none d (beginning xs c))
  beginning_later (suc m) c {xs} earlier =
      let next : c + suc m ≡ suc c + m = omega arith in
      rw
      (next, after_first d m (beginning xs c), ← beginning_next c earlier)
      (beginning_later m (suc c) (earlier_still (suc c) (suc (suc c)) (omega arith) earlier))

  beginning_behind : (done c : ℕ) {xs : List TraceRecord} → done ≤ c → Earlier (suc done) xs → after_cycles d (c - done) (beginning xs done) ≡ beginning xs c
  beginning_behind done c {xs} l earlier = beginning_later (c - done) done earlier ∙ ap (beginning xs) (omega arith)

  -- one more record of the cycle
  beginning_record : (xs : List TraceRecord) (r : TraceRecord)
      → beginning (xs ++ r ∷ []) r.cycle
      ≡ record {
        registers = set (beginning xs r.cycle).registers r.register r.value;
        targets = (beginning xs r.cycle).targets;
        bindings = (beginning xs r.cycle).bindings;
      }
  unfolding beginning with_records
  beginning_record xs r =
      let c = r.cycle in
      let before : replayed d (xs ++ r ∷ []) 0 c areas ≡ replayed d xs 0 c areas =
      replayed_same d (xs ++ r ∷ []) xs 0 0 c areas (λ k values l. ap (λ (records : List TraceRecord). applied records values) (records_before (0 + k) xs r (omega arith))) in
      rw (before, applied_next c xs r (after_last areas (replayed d xs 0 c areas)).registers refl)

  -- ---- the records one by one
  module _ {n : ℕ} {trace : List TraceRecord} (rising : Rising n 0 trace) where
    -- as many cycles as are done are not past the next record
    pub done_rises : (i : ℕ) → i < length trace → done_before trace i ≤ (record_at trace i).cycle
    unfolding done_before
    done_rises zero l = omega arith
    done_rises (suc i) l = rising_between rising i (suc i) (omega arith) l

    -- and not past the last cycle
    pub done_below : (i : ℕ) → i ≤ length trace → done_before trace i ≤ n
    unfolding done_before
    done_below zero l = omega arith
    done_below (suc i) l = let below = each_at (rising_below rising) i (omega arith) in omega arith

    done_all : (i : ℕ) → i ≤ length trace → Earlier (suc (done_before trace i)) (take i trace)
    unfolding done_before
    done_all zero l = of_none
    done_all (suc i) l = each_make (take (suc i) trace) go
      where
        go : (k : ℕ) → k < length (take (suc i) trace) → (record_at (take (suc i) trace) k).cycle < suc (record_at trace i).cycle
        go k inside =
            let size = length-take (suc i) trace in
            let before : k < suc i = omega arith in
            let same : (record_at (take (suc i) trace) k).cycle ≡ (record_at trace k).cycle = ap (λ (r : TraceRecord). r.cycle) (get_or-take (suc i) trace k no_record before) in
            let least = rising_between rising k i (omega arith) (omega arith) in
            omega arith

    records_applied : (i : ℕ) → i ≤ length trace → replayed_to d trace areas i ≡ beginning (take i trace) (done_before trace i)
    unfolding replayed_to stepped
    records_applied zero l = unfold done_before beginning with_records records_of_cycle kept applied replayed after_last in refl
    records_applied (suc i) l =
        let r = record_at trace i in
        let ran = beginning_behind (done_before trace i) r.cycle (done_rises i (omega arith)) (done_all i (omega arith)) in
        rw (records_applied i (omega arith), ran, ← beginning_record (take i trace) r, ← take-suc trace i no_record (omega arith)) (unfold done_before in refl)

    -- all of them, and the cycles that are left
    pub replayed_by_records : after_cycles d (n - done_before trace (length trace)) (replayed_to d trace areas (length trace)) ≡ after_last areas (replayed d trace 0 n areas)
    replayed_by_records =
        let all = length trace in
        let most : all ≤ length trace = omega arith in
        rw
        (records_applied all most, beginning_behind (done_before trace all) n (done_below all most) (done_all all most), take-length trace)
        (unfold beginning in no_records n (rising_below rising) (after_last areas (replayed d trace 0 n areas)))
