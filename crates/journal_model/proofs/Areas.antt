-- The areas that the two calls leave: an accepted journalled run leaves those of a run, and a step back restores a state that was judged as a run judges it. So the
-- registers are within their widths, and a journalled run leaves every port.
use Rattle.std.specs.Prelude.{Err}
use Prim.Native.Nat.{ℕ, ◌<◌}
use mathlib.Core.Path.{◌≡◌, refl}
use mathlib.Core.List.{List}
use Rattle.model.specs.Image.{AreBytes, design_of}
use Rattle.model.specs.Answers.{Answer, Accepted, numbers_of}
use Rattle.model.specs.Ports.{PortsKept}
use Rattle.model.specs.Calls.{content_kept, run}
use Rattle.model.specs.Parties.{runs, perform}
use Rattle.model.specs.Refusals.{WithinWidths}
use Rattle.model.proofs.Laws.Equivalences.{less_iff}
use Rattle.model.proofs.Grouping.{ready_run}
use Rattle.model.proofs.Ports.{run_keeps_ports}
use Rattle.model.proofs.Widths.{accepted_within}
use Rattle.journal_model.specs.Calls.{LentJournal, run_journalled_answer, run_journalled, step_back}
use Rattle.journal_model.proofs.Accepted.{accepted_runs, runs_leaves, accepted_goes_back, back_leaves}

module _ (image : List ℕ) (lent : LentJournal) where
  pub as_run : (n : ℕ) → (numbers_of (run_journalled image lent n).answer).number ≡ 0
      → run image lent.areas n ≡ record { answer = (run_journalled image lent n).answer; lent = (run_journalled image lent n).lent.areas }
  as_run n e = let r = accepted_runs image lent n e in rw (runs_leaves image lent n r, ready_run image lent.areas r.ready n r.few)

  pub run_within_widths : (n : ℕ) → (numbers_of (run_journalled image lent n).answer).number ≡ 0
      → WithinWidths (design_of image) (run_journalled image lent n).lent.areas.registers
  unfolding perform
  run_within_widths n e =
      let same = as_run n e in
      let told : (numbers_of (run image lent.areas n).answer).number ≡ 0 = rw same e in
      rw same at (accepted_within image lent.areas (runs n) told)

  pub back_within_widths : (k : ℕ) → 0 < k → (numbers_of (step_back image lent k).answer).number ≡ 0
      → WithinWidths (design_of image) (step_back image lent k).lent.areas.registers
  unfolding content_kept
  back_within_widths k some e =
      let goes = accepted_goes_back image lent k e in
      rw (back_leaves image lent k some goes) (λ r l. less_iff.0 ((goes.sound some).contents r l))

  pub run_ports_kept : AreBytes lent.areas.registers → (n : ℕ) → PortsKept (design_of image) lent.areas.registers (run_journalled image lent n).lent.areas.registers
  unfolding run_journalled
  run_ports_kept bytes n = go (run_journalled_answer image lent n) refl
    where
      go : (a : Answer) → run_journalled_answer image lent n ≡ a → PortsKept (design_of image) lent.areas.registers (run_journalled image lent n).lent.areas.registers
      go (Accepted count) e = rw e (run_keeps_ports image lent.areas bytes n)
      go (Err why) e = rw e (λ r port k l. refl)
