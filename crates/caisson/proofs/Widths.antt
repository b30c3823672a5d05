-- 02, E2, of all six calls: an accepted one leaves every register within its width. Going back by 0 restores nothing and judges no contents.
use Prim.Native.Nat.{ℕ, zero, suc}
use mathlib.Core.Path.{◌≡◌, refl}
use mathlib.Core.List.{List}
use native.Mathlib.Omega.{arith}
use Rattle.model.specs.Image.{design_of}
use Rattle.model.specs.Refusals.{WithinWidths}
use Rattle.model.specs.Parties as parties
use Rattle.model.proofs.Promises as meaning
use Rattle.journal_model.specs.Calls.{LentJournal}
use Rattle.lists_model.specs.Lists.{Call, resets, writes, runs, runs_journalled, goes_back, replays, listed}
use Rattle.lists_model.proofs.Listed.{listed_performs}
use Rattle.caisson.specs.declared.HostAnswer.{HostAnswer}
use Rattle.caisson.proofs.Contracts.{Called}
use Rattle.caisson.proofs.Calls.{called_leaves, called_accepted}
use Rattle.caisson.proofs.Journals.{run_told_within_widths, back_told_within_widths}
use Rattle.caisson.proofs.Replays.{replay_told_within_widths}

module _ (image : List ℕ) (before after : LentJournal) (h : HostAnswer) where
  -- one of 01's calls
  listed_within : (call : parties.Call) → Called image before (listed call) h after → h.number ≡ 0 → WithinWidths (design_of image) after.areas.registers
  listed_within call called accepted =
      let leaves = called_leaves image before after (listed call) h called in
      let done = called_accepted image before after (listed call) h called accepted in
      rw (leaves, listed_performs image before call)
      (meaning.within_widths image before.areas call (rw (listed_performs image before call) at done))

  pub within : (call : Call) → Called image before call h after → h.number ≡ 0 → (call ≡ goes_back 0 → ⊥) → WithinWidths (design_of image) after.areas.registers
  within resets called accepted some = listed_within parties.resets called accepted
  within (writes r v) called accepted some = listed_within (parties.writes r v) called accepted
  within (runs n) called accepted some = listed_within (parties.runs n) called accepted
  within (runs_journalled n) called accepted some = run_told_within_widths image before after n h called accepted
  within (goes_back zero) called accepted some = absurd (some refl)
  within (goes_back (suc k)) called accepted some = back_told_within_widths image before after (suc k) h called (omega arith) accepted
  within (replays trace n) called accepted some = replay_told_within_widths image before after trace n h called accepted
