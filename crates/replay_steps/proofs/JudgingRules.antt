-- How the records of a trace are judged, one by one: each leaves what is known in one of four ways, and what is known of the first i is what the definitions say of them.
use Rattle.std.specs.Prelude.{Option, Some, None, Err}
use Prim.Native.Nat.{ℕ, zero, suc, ◌+◌, ◌-◌, ◌≤◌}
use mathlib.Core.Path.{◌≡◌, refl, sym, ◌∙◌, ap}
use mathlib.Core.Bool.{Bool, true, false, ◌&&◌, not, cond}
use mathlib.Core.List.{List}
use native.Mathlib.Omega.{arith}
use lib.Dec.{leb, ltb, eqb}
use lib.ListN.{length, get_or}
use Rattle.model.specs.declared.Refusal.{Refusal}
use Rattle.model.specs.declared.Refusal.TheVariants.{TraceCycle}
use Rattle.model.specs.Answers.{Answer, Accepted, Refused}
use Rattle.model.specs.Indices.{or_at, lowest, lowest_failing}
use Rattle.model.specs.Image.{Design as Table}
use Rattle.model.specs.Verdict.{◌before◌, refused_at}
use Rattle.model.proofs.Laws.Equivalences.{at_most_iff}
use Rattle.model.proofs.Laws.Found.{at_is_not_nowhere}
use Rattle.model.proofs.Laws.Verdict.{refused_is_not_accepted, first_accepts, later_accepts}
use Rattle.replay_model.specs.declared.TraceRecord.{TraceRecord}
use Rattle.replay_model.specs.Traces.{record_at, superseded_in}
use Rattle.replay_model.specs.Calls.{cycle_kept, trace_answer, records_answer}
use Rattle.replay_model.proofs.Laws.{Rising}
use Rattle.replay_model.proofs.Applied.{rising_found}
use Rattle.replay_model.proofs.Superseded.{counted_all}
use Rattle.replay_steps.specs.declared.preparing.Prepared.{Prepared}
use Rattle.replay_steps.specs.declared.judging.Judging.{Judging}
use Rattle.replay_steps.specs.Judging.{judging_of, port_at, superseding, answering, judged_as, judged_port, unordered_at, judged_in, judged_next, judged_to, judged_answer}
use Rattle.replay_steps.specs.Replaying.{done_before}
use Rattle.replay_steps.proofs.CountRules.{Tables, tables_start, tables_next}
use Rattle.replay_steps.proofs.PortRules.{Ports, port_below, ports_answer, ports_count_nothing, ports_none, ports_next}

-- ---- one record
-- it comes behind one that 23 refuses; 23 refuses it; 13 or 17 refuse it or one before it; or it is kept
data Step (s : Judging) (i c r v : ℕ) : Judging → Type 0 where
  behind : {k : ℕ} → s.unordered ≡ Some k → Step s i c r v s
  breaks : s.unordered ≡ None → (leb s.previous c && ltb c s.count) ≡ false → Step s i c r v (unordered_at s i)
  refused : {refusal : Refusal} {place : ℕ} → s.unordered ≡ None → (leb s.previous c && ltb c s.count) ≡ true
      → (s.answer before port_at s.largest i r v) ≡ Refused refusal place
      → Step s i c r v (answering s c (Refused refusal place))
  kept : {n : ℕ} → s.unordered ≡ None → (leb s.previous c && ltb c s.count) ≡ true → (s.answer before port_at s.largest i r v) ≡ Accepted n
      → Step s i c r v (superseding s c r)

step_made : (s : Judging) (i c r v : ℕ) → Step s i c r v (judged_next s i c r v)
unfolding judged_next judged_port
step_made s i c r v = go s.unordered refl
  where
    port : (a : Answer) → (s.answer before port_at s.largest i r v) ≡ a → s.unordered ≡ None → (leb s.previous c && ltb c s.count) ≡ true → Step s i c r v (judged_as s c r a)
    port (Accepted n) e none order = kept none order e
    port (Err why) e none order = refused none order e

    ordered : (b : Bool) → (leb s.previous c && ltb c s.count) ≡ b → s.unordered ≡ None
        → Step s i c r v (cond b (judged_as s c r (s.answer before port_at s.largest i r v)) (unordered_at s i))
    ordered true e none = port (s.answer before port_at s.largest i r v) refl none e
    ordered false e none = breaks none e

    go : (f : Option ℕ) → s.unordered ≡ f → Step s i c r v (judged_in s i c r v f)
    go (Some k) e = behind e
    go None e = ordered (leb s.previous c && ltb c s.count) refl e

-- a record supersedes one at most
step_counts : {s t : Judging} {i c r v : ℕ} → Step s i c r v t → t.superseded ≤ suc s.superseded
unfolding superseding answering unordered_at
step_counts (behind e) = omega arith
step_counts (breaks none order) = omega arith
step_counts (refused none order e) = omega arith
step_counts {s} {c = c} {r = r} (kept none order e) = go (eqb (get_or s.last r 0) (c + 1))
  where
    go : (b : Bool) → cond b (s.superseded + 1) s.superseded ≤ suc s.superseded
    go true = omega arith
    go false = omega arith

pub superseded_within : (trace : List TraceRecord) (s : Judging) → s.superseded ≡ 0 → (i : ℕ) → (judged_to trace s i).superseded ≤ i
unfolding judged_to
superseded_within trace s e zero = omega arith
superseded_within trace s e (suc i) =
    let earlier = superseded_within trace s e i in
    let one = step_counts (step_made (judged_to trace s i) i (record_at trace i).cycle (record_at trace i).register (record_at trace i).value) in
    omega arith

-- ---- the first records
-- 23 of record i, by the cycle of the record before it
order_rule : (trace : List TraceRecord) (n i : ℕ) → (leb (done_before trace i) (record_at trace i).cycle && ltb (record_at trace i).cycle n) ≡ cycle_kept trace n i
unfolding done_before cycle_kept
order_rule trace n zero =
    rw
    ((at_most_iff {a = 0} {b = (record_at trace 0).cycle}).1 (omega arith), (at_most_iff {a = (record_at trace 0).cycle} {b = (record_at trace 0).cycle}).1 (omega arith))
order_rule trace n (suc i) = let one : suc i - 1 ≡ i = omega arith in rw one

module _ (d : Table) (p : Prepared) (trace : List TraceRecord) where
  abbrev rule : ℕ → Bool
  rule = cycle_kept trace p.count

  -- what is known of the first i: 13 and 17 and the count only while 23 refuses none, and the count only in a trace in which it never does
  record Known (i : ℕ) (s : Judging) : Type 0 where
    count : s.count ≡ p.count
    largest : s.largest ≡ p.largest
    unordered : s.unordered ≡ lowest_failing rule i
    previous : s.unordered ≡ None → s.previous ≡ done_before trace i
    answer : s.unordered ≡ None → s.answer ≡ ports_answer d trace i
    tables : Rising p.count 0 trace → i ≤ length trace → s.unordered ≡ None → s.answer ≡ Accepted 0 → Tables trace i s

  known_start : Known 0 (judging_of p)
  unfolding judging_of lowest_failing lowest done_before
  known_start =
      record {
        count = refl;
        largest = refl;
        unordered = refl;
        previous = λ none. refl;
        answer = λ none. sym (ports_none d trace);
        tables = λ rising l none accepted. tables_start trace p;
      }

  -- one more record
  module _ (ports : Ports d p.largest) (i : ℕ) {s : Judging} (known : Known i s) where
    abbrev r : TraceRecord
    r = record_at trace i

    abbrev order : Bool
    order = leb s.previous r.cycle && ltb r.cycle s.count

    order_is : s.unordered ≡ None → order ≡ rule i
    order_is none = rw (known.previous none, known.count) (order_rule trace p.count i)

    -- 23 so far
    order_next : (f : Option ℕ) (b : Bool) → s.unordered ≡ f → rule i ≡ b → or_at f (not b) i ≡ lowest_failing rule (suc i)
    unfolding lowest_failing lowest
    order_next f b found is = rw (← known.unordered, found, is)

    -- 13 and 17 so far
    answer_next : s.unordered ≡ None → (s.answer before port_at s.largest i r.register r.value) ≡ ports_answer d trace (suc i)
    answer_next none = rw (known.answer none, known.largest) (sym (ports_next d trace ports i))

    accepted_next : {n : ℕ} → s.unordered ≡ None → (s.answer before port_at s.largest i r.register r.value) ≡ Accepted n → s.answer ≡ ports_answer d trace (suc i)
    accepted_next {n} none e =
        let first = first_accepts s.answer (port_at s.largest i r.register r.value) e in
        let nothing : first.0 ≡ 0 = ports_count_nothing d trace i first.0 (sym (known.answer none) ∙ first.1) in
        let still : n ≡ 0 = ports_count_nothing d trace (suc i) n (sym (answer_next none) ∙ e) in
        first.1 ∙ ap Accepted (nothing ∙ sym still) ∙ sym e ∙ answer_next none

    known_next : {t : Judging} → Step s i r.cycle r.register r.value t → Known (suc i) t
    unfolding superseding answering unordered_at done_before
    known_next (behind {k} e) =
        record {
          count = known.count;
          largest = known.largest;
          unordered = e ∙ order_next (Some k) (rule i) e refl;
          previous = λ none. absurd (at_is_not_nowhere k (sym e ∙ none));
          answer = λ none. absurd (at_is_not_nowhere k (sym e ∙ none));
          tables = λ rising l none accepted. absurd (at_is_not_nowhere k (sym e ∙ none));
        }
    known_next (breaks none falls) =
        record {
          count = known.count;
          largest = known.largest;
          unordered = order_next None false none (sym (order_is none) ∙ falls);
          previous = λ other. absurd (at_is_not_nowhere i other);
          answer = λ other. absurd (at_is_not_nowhere i other);
          tables = λ rising l other accepted. absurd (at_is_not_nowhere i other);
        }
    known_next (refused {refusal} {place} none rises e) =
        record {
          count = known.count;
          largest = known.largest;
          unordered = none ∙ order_next None true none (sym (order_is none) ∙ rises);
          previous = λ none. refl;
          answer = λ none. sym e ∙ answer_next none;
          tables = λ rising l none accepted. absurd (refused_is_not_accepted refusal place 0 accepted);
        }
    known_next (kept none rises e) =
        record {
          count = known.count;
          largest = known.largest;
          unordered = none ∙ order_next None true none (sym (order_is none) ∙ rises);
          previous = λ none. refl;
          answer = λ none. accepted_next none e;
          tables = λ rising l none accepted. tables_next rising (omega arith) (port_below s.largest i r.register r.value (later_accepts s.answer (port_at s.largest i r.register r.value) e)) (known.tables rising (omega arith) none accepted);
        }

  module _ (ports : Ports d p.largest) where
    known_all : (i : ℕ) → Known i (judged_to trace (judging_of p) i)
    unfolding judged_to
    known_all zero = known_start
    known_all (suc i) =
        known_next ports i (known_all i) (step_made (judged_to trace (judging_of p) i) i (record_at trace i).cycle (record_at trace i).register (record_at trace i).value)

    -- once all are judged, the answer is that of the definitions
    pub judged_answer_lem : judged_answer (judged_to trace (judging_of p) (length trace)) ≡ (trace_answer trace p.count before records_answer d trace before Accepted (superseded_in trace))
    unfolding judged_answer trace_answer records_answer ports_answer refused_at ◌before◌
    judged_answer_lem = go (lowest_failing rule (length trace)) refl
      where
        s : Judging
        s = judged_to trace (judging_of p) (length trace)

        known : Known (length trace) s
        known = known_all (length trace)

        counts : Rising p.count 0 trace → s.unordered ≡ None → s.answer ≡ Accepted 0 → s.superseded ≡ superseded_in trace
        counts rising none accepted = counted_all (known.tables rising (omega arith) none accepted).counted (omega arith) refl

        behind_order : (a : Answer) → ports_answer d trace (length trace) ≡ a → Rising p.count 0 trace → s.unordered ≡ None
            → (a before Accepted s.superseded) ≡ (a before Accepted (superseded_in trace))
        behind_order (Err why) e rising none = refl
        behind_order (Accepted n) e rising none =
            let nothing : n ≡ 0 = ports_count_nothing d trace (length trace) n e in
            ap Accepted (counts rising none (known.answer none ∙ e ∙ ap Accepted nothing))

        go : (f : Option ℕ) → lowest_failing rule (length trace) ≡ f
            → (refused_at TraceCycle s.unordered before s.answer before Accepted s.superseded)
            ≡ (refused_at TraceCycle (lowest_failing rule (length trace)) before ports_answer d trace (length trace) before Accepted (superseded_in trace))
        go (Some k) e = rw (known.unordered, e)
        go None e =
            let none = known.unordered ∙ e in
            rw (none, e, known.answer none) (behind_order (ports_answer d trace (length trace)) refl (rising_found e) none)
