-- How the records of a trace are applied, one by one, and what the whole leaves. The answer is the replay's; where it accepts, cycles never fall and every record is for a
-- port that its value fits, so each step can be made; where it refuses, no record is applied.
use Rattle.std.specs.Prelude.{Err}
use Prim.Native.Nat.{ℕ, suc, ◌-◌, ◌<◌}
use mathlib.Core.Path.{◌≡◌, refl, sym, ◌∙◌, ap}
use mathlib.Core.List.{List}
use native.Mathlib.Omega.{arith}
use lib.ListN.{length}
use Rattle.model.specs.Answers.{Answer, Accepted}
use Rattle.model.specs.Image.{design_of}
use Rattle.model.specs.Verdict.{◌before◌}
use Rattle.model.specs.Machine.{after_last, after_cycles}
use Rattle.model.specs.Calls.{Lent, leaves, areas_of, lent_of, run_answer, left_as}
use Rattle.model.proofs.Laws.Equivalences.{less_iff}
use Rattle.model.proofs.Laws.Verdict.{first_accepts}
use Rattle.design.specs.Resets.{lends}
use Rattle.machine.specs.Cycles.{Running, areas_in}
use Rattle.calls.proofs.CallRules.{port_there}
use Rattle.replay_model.specs.declared.TraceRecord.{TraceRecord}
use Rattle.replay_model.specs.Traces.{record_at, replayed, superseded_in}
use Rattle.replay_model.specs.Calls.{trace_answer, records_answer, replay_answer, replay}
use Rattle.replay_model.proofs.Laws.{each_at}
use Rattle.replay_model.proofs.Exact.{replay_answer_lem}
use Rattle.replay_model.proofs.Accepted.{Replayable, accepted_replays}
use Rattle.replay_steps.specs.declared.preparing.Prepared.{Prepared}
use Rattle.replay_steps.specs.declared.judging.Judging.{Judging}
use Rattle.replay_steps.specs.Preparing.{Preparing}
use Rattle.replay_steps.specs.Judging.{judging_of, judged_to, judged_answer, answer_of, kept_by, records_kept}
use Rattle.replay_steps.specs.Replaying.{stepped, done_before, replayed_to, Judged, Stepping, Finishing, Replaying}
use Rattle.replay_steps.proofs.PortRules.{ports_known}
use Rattle.replay_steps.proofs.JudgingRules.{judged_answer_lem}
use Rattle.replay_steps.proofs.RecordRules.{done_rises, done_below, replayed_by_records}

-- ---- how many records are applied
module _ (p : Prepared) (s : Judging) (records : ℕ) where
  -- all, where the replay is accepted
  kept_all : {k : ℕ} → answer_of p s ≡ Accepted k → records_kept p s records ≡ records
  unfolding records_kept
  kept_all e = rw e

  -- where it is refused, none: so where one is, it is accepted
  kept_accepts : {i : ℕ} → i < records_kept p s records → (k : ℕ) × (answer_of p s ≡ Accepted k)
  unfolding records_kept
  kept_accepts {i} l = go (answer_of p s) refl l
    where
      go : (a : Answer) → answer_of p s ≡ a → i < kept_by a records → (k : ℕ) × (answer_of p s ≡ Accepted k)
      go (Accepted k) e l = (k, e)
      go (Err why) e l = absurd (omega arith)

-- ---- the answer
module _ {image : List ℕ} {lent : Lent} {trace : List TraceRecord} {p : Prepared} {s : Judging} (j : Judged image lent trace p s) where
  -- where all before the trace is accepted, cycles can run
  judged_running : {k : ℕ} → answer_of p s ≡ Accepted k → Running image p.design p.tables.defaults p.tables.scopes lent.registers lent.targets
  unfolding answer_of
  judged_running e = let first = first_accepts p.answer (judged_answer s) e in j.prepared.running first.0 first.1

  -- it is the replay's
  judged_replays : answer_of p s ≡ replay_answer image lent trace p.count
  unfolding answer_of replay_answer ◌before◌
  judged_replays = go p.answer refl
    where
      behind : Answer
      behind = trace_answer trace p.count before records_answer (design_of image) trace before Accepted (superseded_in trace)

      go : (a : Answer) → p.answer ≡ a → (p.answer before judged_answer s) ≡ (run_answer image lent p.count before behind)
      go (Err why) e = rw (← j.prepared.answer, e)
      go (Accepted k) e =
          let known = (j.prepared.running k e).known in
          rw (← j.prepared.answer, e, j.judged) (judged_answer_lem (design_of image) p trace (ports_known known (j.prepared.ports k e)))

  -- where it accepts, the trace is as the definitions ask
  judged_replayable : {k : ℕ} → answer_of p s ≡ Accepted k → Replayable image lent trace p.count
  judged_replayable e = accepted_replays image lent trace p.count (rw (replay_answer_lem image lent trace p.count, ← judged_replays, e))

-- ---- the records
module _ {image : List ℕ} {trace : List TraceRecord} {p : Prepared} {s : Judging} where
  -- before the first
  pub replaying_none : {registers targets : List ℕ} → Judged image (lends registers targets) trace p s → Replaying image (lends registers targets) trace p s 0 0 registers targets
  unfolding done_before replayed_to
  replaying_none j =
      record {
        judged = j;
        within = omega arith;
        cycles = refl;
        running = λ k e. judged_running j e;
        areas = refl;
        none = λ first. (refl, refl);
      }

  module _ {start : Lent} {i done : ℕ} {registers targets : List ℕ} (r : Replaying image start trace p s i done registers targets) where
    module _ (more : i < records_kept p s (length trace)) where
      accepted : answer_of p s ≡ Accepted (kept_accepts p s (length trace) more).0
      accepted = (kept_accepts p s (length trace) more).1

      replayable : Replayable image start trace p.count
      replayable = judged_replayable r.judged accepted

      -- there is a record, and the step can be made
      pub replaying_inside : i < length trace
      replaying_inside = let all = kept_all p s (length trace) accepted in omega arith

      pub replaying_ready : Stepping image p registers targets done (record_at trace i).cycle (record_at trace i).register (record_at trace i).value
      replaying_ready =
          let port = each_at replayable.ports i replaying_inside in
          let d = design_of image in
          let rises = done_rises d (areas_of d start) replayable.rising i replaying_inside in
          let cycles = r.cycles in
          record {
            running = r.running (kept_accepts p s (length trace) more).0 accepted;
            earlier = omega arith;
            port = port_there d (record_at trace i).register (sym port.writable) refl;
            fits = less_iff.0 port.fitting;
          }

      -- one more
      pub replaying_next : {n : ℕ} {registers' targets' : List ℕ} → n ≡ (record_at trace i).cycle
          → areas_in (design_of image) registers' targets' ≡ stepped (design_of image) ((record_at trace i).cycle - done) (record_at trace i).register (record_at trace i).value (areas_in (design_of image) registers targets)
          → Running image p.design p.tables.defaults p.tables.scopes registers' targets'
          → Replaying image start trace p s (suc i) n registers' targets'
      unfolding done_before replayed_to
      replaying_next at steps running =
          record {
            judged = r.judged;
            within = more;
            cycles = at;
            running = λ k e. running;
            areas = rw (r.areas, r.cycles) at steps;
            none = λ first. absurd (omega arith);
          }

    -- all
    module _ (last : i ≡ records_kept p s (length trace)) where
      last_record : {k : ℕ} → answer_of p s ≡ Accepted k → done ≡ done_before trace (length trace)
      last_record e = r.cycles ∙ ap (done_before trace) (last ∙ kept_all p s (length trace) e)

      pub replaying_ends : Finishing image p s registers targets done
      replaying_ends =
          record {
            running = r.running;
            earlier = λ k e. let rising = (judged_replayable r.judged e).rising in let below = done_below (design_of image) (areas_of (design_of image) start) rising (length trace) (omega arith) in let all = last_record e in omega arith;
          }

      -- the areas that are left
      areas_left_lem : {k : ℕ} → answer_of p s ≡ Accepted k
          → after_cycles (design_of image) (p.count - done) (areas_of (design_of image) (lends registers targets))
          ≡ after_last (areas_of (design_of image) start) (replayed (design_of image) trace 0 p.count (areas_of (design_of image) start))
      unfolding areas_of
      areas_left_lem e =
          let d = design_of image in
          rw (r.areas, last, kept_all p s (length trace) e, last_record e) (replayed_by_records d (areas_of d start) (judged_replayable r.judged e).rising)

      pub replaying_all : {a : Answer} {registers' targets' : List ℕ}
          → left_as a (lends registers' targets') ≡ leaves (answer_of p s) (lends registers targets) (lent_of (after_cycles (design_of image) (p.count - done) (areas_of (design_of image) (lends registers targets))))
          → left_as a (lends registers' targets') ≡ replay image start trace p.count
      unfolding replay records_kept
      replaying_all {a} {registers'} {targets'} left = left ∙ go (answer_of p s) refl
        where
          made : Lent
          made = lent_of (after_cycles (design_of image) (p.count - done) (areas_of (design_of image) (lends registers targets)))

          go : (b : Answer) → answer_of p s ≡ b → leaves (answer_of p s) (lends registers targets) made ≡ replay image start trace p.count
          go (Err why) e =
              let first : i ≡ 0 = last ∙ rw e in
              let same = r.none first in
              rw (← judged_replays r.judged, e, same.0, same.1)
          go (Accepted k) e = rw (← judged_replays r.judged, e, areas_left_lem e)

-- what the replay hands on
pub judged_all : {image : List ℕ} {lent : Lent} {trace : List TraceRecord} {n : ℕ} {p : Prepared} {b s : Judging} → Preparing image lent n p → b ≡ judging_of p → s ≡ judged_to trace b (length trace) → Judged image lent trace p s
judged_all {image} {lent} {trace} {p = p} prepared begun judged =
    record {
      prepared = rw (← prepared.count) at prepared;
      judged = judged ∙ ap (λ (t : Judging). judged_to trace t (length trace)) begun;
    }
