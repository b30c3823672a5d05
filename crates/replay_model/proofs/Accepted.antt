-- What an accepted replay found in order, and what it leaves: the areas are ready for a run, the cycles of the trace never fall, and its records are port writes that would be
-- accepted; so they leave good areas good, as cycles do.
use Prim.Native.Nat.{ℕ, zero, suc, ◌≤◌, ◌<◌}
use mathlib.Core.Path.{◌≡◌, refl, ◌∙◌, ap}
use mathlib.Core.Logic.{◌⊎◌, inl, inr}
use mathlib.Core.Bool.{true}
use mathlib.Core.List.{List, [], ◌∷◌}
use native.Mathlib.Omega.{arith}
use lib.ListN.{length, length-set}
use Rattle.model.specs.declared.Refusal.{Refusal}
use Rattle.model.specs.declared.Refusal.TheVariants.{NoPort, PortValue, TraceCycle}
use Rattle.model.specs.Limits.{cycles_max}
use Rattle.model.specs.Image.{Design, design_of}
use Rattle.model.specs.Verdict.{verdict}
use Rattle.model.specs.Answers.{Accepted, Refused, Numbers, numbers_of}
use Rattle.model.specs.Values.{fits}
use Rattle.model.specs.Machine.{Areas, cycle, cycles, after_last, after_cycles}
use Rattle.model.specs.Calls.{Lent, is_writable, areas_of, lent_of, run}
use Rattle.model.specs.Parties.{runs, perform}
use Rattle.model.specs.Refusals.{Pass, ◌asks◌, each, AllKept, image_table, run_table}
use Rattle.model.proofs.Laws.Equivalences.{less_iff}
use Rattle.model.proofs.Laws.Numbers.{no_number_zero}
use Rattle.model.proofs.Laws.Broken.{all_kept_append}
use Rattle.model.proofs.Refused.{call_exactly}
use Rattle.model.proofs.Exact.{verdict_exact}
use Rattle.model.proofs.Independence.Relation.{Good, with_register}
use Rattle.model.proofs.Independence.Calls.{areas_of_lent}
use Rattle.model.proofs.Independence.Widths.{set_fitting}
use Rattle.model.proofs.Grouping.{Ready, Refuses, ready_or_refuses, ready_run, ready_good, cycles_good, good_ready}
use Rattle.replay_model.specs.declared.TraceRecord.{TraceRecord}
use Rattle.replay_model.specs.Traces.{records_of_cycle, applied, with_records, replayed, superseded_in}
use Rattle.replay_model.specs.Calls.{register_kept, replay_answer, replay}
use Rattle.replay_model.specs.Rules.{CycleKeeps, NamesPort, ValueFits, replay_table}
use Rattle.replay_model.proofs.Laws.{Each, of_none, of_more, each_kept, each_at, each_make, Rising, rising_below, rising_between, rising_kept}
use Rattle.replay_model.proofs.Exact.{register_iff, replay_answer_lem, replay_decides}

-- ---- a run
module _ (image : List ℕ) (lent : Lent) (n : ℕ) where
  ready_kept : Ready image lent → n ≤ cycles_max → AllKept (run_table image lent n)
  unfolding perform
  ready_kept ready l = (call_exactly image lent (runs n)).answers.accepted.0 (rw (ready_run image lent ready n l))

  kept_ready : AllKept (run_table image lent n) → Ready image lent
  unfolding perform
  kept_ready kept = go (ready_or_refuses image lent)
    where
      told : (numbers_of (run image lent n).answer).number ≡ 0
      told = ap (λ (numbers : Numbers). numbers.number) ((call_exactly image lent (runs n)).answers.accepted.1 kept)

      go : Ready image lent ⊎ Refuses image lent → Ready image lent
      go (inl ready) = ready
      go (inr refuses) = absurd (no_number_zero refuses.refusal (rw (refuses.refused n) at told))

  kept_few : AllKept (run_table image lent n) → n ≤ cycles_max
  kept_few kept = (((all_kept_append (image_table image) _).0 kept).1.1.1.1.1.0 0).0 refl

-- ---- a replay
-- a record whose port write is accepted
pub record PortRecord (d : Design) (r : TraceRecord) : Type 0 where
  pub writable : is_writable d r.register ≡ true
  pub fitting : fits d.registers r.register r.value ≡ true

pub record Replayable (image : List ℕ) (lent : Lent) (trace : List TraceRecord) (n : ℕ) : Type 0 where
  pub ready : Ready image lent
  pub few : n ≤ cycles_max
  pub rising : Rising n 0 trace
  pub ports : Each (PortRecord (design_of image)) trace

-- the areas after it
abbrev pub after_replay : Design → List TraceRecord → ℕ → Areas → Areas
after_replay d trace n areas = after_last areas (replayed d trace 0 n areas)

module _ (image : List ℕ) (lent : Lent) (trace : List TraceRecord) (n : ℕ) where
  abbrev d : Design
  d = design_of image

  abbrev trace_table : List Pass
  trace_table =
      (TraceCycle asks each (length trace) (CycleKeeps trace n) ∷ [])
      ∷ (NoPort asks each (length trace) (NamesPort d trace) ∷ PortValue asks each (length trace) (ValueFits d trace) ∷ [])
      ∷ []

  kept_replayable : AllKept (replay_table image lent trace n) → Replayable image lent trace n
  unfolding register_kept
  kept_replayable kept =
      let parts = (all_kept_append (run_table image lent n) trace_table).0 kept in
      let ran : AllKept (run_table image lent n) = parts.0 in
      let names : (i : ℕ) → i < length trace → NamesPort d trace i = λ i. (parts.1.1.0 i).0 in
      let fit : (i : ℕ) → i < length trace → ValueFits d trace i = λ i. (parts.1.1.0 i).1.0 in
      record {
        ready = kept_ready image lent n ran;
        few = kept_few image lent n ran;
        rising = rising_kept trace n (λ i. (parts.1.0 i).0);
        ports = each_make trace (λ i l. record { writable = (register_iff d trace i).1 (names i l); fitting = less_iff.1 (fit i l (names i l)) });
      }

  replayable_kept : Replayable image lent trace n → AllKept (replay_table image lent trace n)
  unfolding register_kept
  replayable_kept r =
      let names : (i : ℕ) → i < length trace → NamesPort d trace i = λ i l. (register_iff d trace i).0 (each_at r.ports i l).writable in
      (all_kept_append (run_table image lent n) trace_table).1 (
        ready_kept image lent n r.ready r.few,
        (
          λ i. (λ l. record { rising = λ before e. rising_between r.rising before i (omega arith) l; below = each_at (rising_below r.rising) i l }, tt),
          (λ i. (names i, (λ l named. less_iff.0 (each_at r.ports i l).fitting, tt)), tt),
        ),
      )

  pub accepted_replays : (numbers_of (replay image lent trace n).answer).number ≡ 0 → Replayable image lent trace n
  accepted_replays e = go (replay_decides image lent trace n).either
    where
      told : (numbers_of (replay_answer image lent trace n)).number ≡ 0
      told = rw (replay_answer_lem image lent trace n) at e

      go : (replay_answer image lent trace n ≡ Accepted (superseded_in trace)) ⊎ ((refusal : Refusal) × (place : ℕ) × (replay_answer image lent trace n ≡ Refused refusal place))
          → Replayable image lent trace n
      go (inl h) = kept_replayable ((replay_decides image lent trace n).accepts.0 h)
      go (inr (refusal, place, h)) = absurd (no_number_zero refusal (rw h at told))

  pub replay_leaves : Replayable image lent trace n
      → replay image lent trace n ≡ record { answer = Accepted (superseded_in trace); lent = lent_of (after_replay (design_of image) trace n (areas_of (design_of image) lent)) }
  unfolding replay
  replay_leaves r = rw ((replay_decides image lent trace n).accepts.1 (replayable_kept r))

-- ---- good areas stay good
-- the areas with records applied
abbrev pub with_applied : List TraceRecord → Areas → Areas
with_applied records areas = record { registers = applied records areas.registers; targets = areas.targets; bindings = areas.bindings }

pub written_good : {d : Design} {areas : Areas} (r : TraceRecord) → PortRecord d r → Good d areas → Good d (with_register r.register r.value areas)
written_good {d} {areas} r port good =
    record {
      registers_length = length-set areas.registers r.register r.value ∙ good.registers_length;
      targets_length = good.targets_length;
      fitting = set_fitting d.registers areas.registers r.register r.value (less_iff.0 port.fitting) good.fitting;
      sound = good.sound;
      bindings_length = good.bindings_length;
      bound = good.bound;
    }

pub applied_good : {d : Design} {areas : Areas} {records : List TraceRecord} → Each (PortRecord d) records → Good d areas → Good d (with_applied records areas)
unfolding applied
applied_good of_none good = good
applied_good (of_more {r} port ports) good = applied_good ports (written_good r port good)

pub cycle_good : (image : List ℕ) → verdict image ≡ Accepted 0 → {areas : Areas} → Good (design_of image) areas → Good (design_of image) (cycle (design_of image) areas).after
unfolding cycles after_cycles after_last
cycle_good image accepted {areas} good = cycles_good image accepted 1 areas good

module _ (image : List ℕ) (accepted : verdict image ≡ Accepted 0) {trace : List TraceRecord} (ports : Each (PortRecord (design_of image)) trace) where
  pub records_good : (c : ℕ) {areas : Areas} → Good (design_of image) areas → Good (design_of image) (with_records trace c areas)
  unfolding with_records records_of_cycle
  records_good c good = applied_good (each_kept _ ports) good

  pub replayed_good : (c n : ℕ) {areas : Areas} → Good (design_of image) areas → Good (design_of image) (after_last areas (replayed (design_of image) trace c n areas))
  unfolding replayed after_last
  replayed_good c zero good = good
  replayed_good c (suc n) good = replayed_good (suc c) n (cycle_good image accepted (records_good c good))

-- the bytes that a replay leaves are ready again, and are read back as the values that it wrote
module _ (image : List ℕ) {lent : Lent} {trace : List TraceRecord} {n : ℕ} (r : Replayable image lent trace n) where
  pub after_good : Good (design_of image) (after_replay (design_of image) trace n (areas_of (design_of image) lent))
  after_good = replayed_good image r.ready.accepted r.ports 0 n (ready_good image lent r.ready)

  pub after_ready : Ready image (lent_of (after_replay (design_of image) trace n (areas_of (design_of image) lent)))
  after_ready = good_ready image r.ready.accepted _ after_good

  pub after_back_lem : areas_of (design_of image) (lent_of (after_replay (design_of image) trace n (areas_of (design_of image) lent)))
      ≡ after_replay (design_of image) trace n (areas_of (design_of image) lent)
  after_back_lem = areas_of_lent (design_of image) ((verdict_exact image).0 r.ready.accepted).design.structure _ after_good
