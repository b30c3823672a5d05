-- What the exported calls with a journal, 02, E9, told and left, from their postconditions (`Contracts`) and no more.
use Prim.Native.Nat.{ℕ, ◌+◌, ◌-◌, ◌≤◌, ◌<◌}
use mathlib.Core.Path.{◌≡◌, sym, ◌∙◌, ap}
use mathlib.Core.List.{List}
use Rattle.model.specs.Image.{byte_at, AreBytes, design_of}
use Rattle.model.specs.Answers.{Accepted, Numbers, numbers_of}
use Rattle.model.specs.Ports.{PortsKept}
use Rattle.model.specs.Calls.{Lent, Left}
use Rattle.model.specs.Refusals.{WithinWidths}
use Rattle.model.specs.Parties as parties
use Rattle.journal_model.specs.Calls.{LentJournal, run_journalled, step_back}
use Rattle.journal_model.proofs.Returning.{BackAt, Returned}
use Rattle.journal_model.proofs.Others.{OtherByte}
use Rattle.journal_model.proofs.Promises as meaning
use Rattle.lists_model.specs.Lists.{runs, runs_journalled, goes_back, perform}
use Rattle.caisson.specs.declared.HostAnswer.{HostAnswer}
use Rattle.caisson.specs.Told.{told}
use Rattle.caisson.proofs.Contracts.{Called}
use Rattle.caisson.proofs.Calls.{called_told, called_leaves}
use Rattle.caisson.proofs.Calls as calls

-- ---- journalled runs
module _ (image : List ℕ) (before ran : LentJournal) (n : ℕ) (one : HostAnswer) (called : Called image before (runs_journalled n) one ran) where
  run_told : told one ≡ numbers_of (run_journalled image before n).answer
  unfolding perform
  run_told = called_told image before ran (runs_journalled n) one called

  run_leaves : ran ≡ (run_journalled image before n).lent
  unfolding perform
  run_leaves = called_leaves image before ran (runs_journalled n) one called

  run_accepted : one.number ≡ 0 → (numbers_of (run_journalled image before n).answer).number ≡ 0
  run_accepted accepted = sym (ap (λ (x : Numbers). x.number) run_told) ∙ accepted

  -- "A journalled run is a run": one that is accepted tells and leaves what a run of the same areas does.
  pub told_as_run : one.number ≡ 0 → (plain : HostAnswer) (left : LentJournal) → Called image before (runs n) plain left → (told plain ≡ told one) × (left.areas ≡ ran.areas)
  unfolding parties.perform
  told_as_run accepted plain left ran-plainly =
      let same = meaning.journalled_as_run image before n (run_accepted accepted) in (
        calls.run_told image before left plain n ran-plainly ∙ ap (λ (x : Left Lent). numbers_of x.answer) same ∙ sym run_told,
        calls.run_leaves image before left plain n ran-plainly ∙ ap (λ (x : Left Lent). x.lent) same ∙ ap (λ (lent : LentJournal). lent.areas) (sym run_leaves),
      )

  -- "its other bytes keep their values": the states that the journal had, and what stands behind those that the run saves, keep every byte, whatever it answers.
  pub told_others_keep : (i : ℕ) → OtherByte image before n i → byte_at ran.journal i ≡ byte_at before.journal i
  told_others_keep i other = rw run_leaves (meaning.journalled_others_keep image before n i other)

  -- 02, E2: one that is accepted leaves every register within its width.
  pub run_told_within_widths : one.number ≡ 0 → WithinWidths (design_of image) ran.areas.registers
  run_told_within_widths accepted = rw run_leaves (meaning.journalled_within_widths image before n (run_accepted accepted))

  -- 02, E1, "Ports belong to the host": whatever it answers, it leaves every byte of every port.
  pub journalled_ports_kept : AreBytes before.areas.registers → PortsKept (design_of image) before.areas.registers ran.areas.registers
  journalled_ports_kept bytes = rw run_leaves (meaning.journalled_ports_kept image before bytes n)

-- "saves both areas .. before every cycle .. oldest first": an accepted journalled run may be cut. One of n and then one of m are accepted, each with its count, and leave
-- the three areas that one of n + m leaves.
pub told_halves :
    (image : List ℕ) (before between after whole : LentJournal)
    → AreBytes before.areas.registers
    → (n m : ℕ)
    → (first second both : HostAnswer)
    → Called image before (runs_journalled (n + m)) both whole
    → both.number ≡ 0
    → Called image before (runs_journalled n) first between
    → Called image between (runs_journalled m) second after
    → (told first ≡ record { number = 0; place = 0; count = n }) × (told second ≡ record { number = 0; place = 0; count = m }) × (after ≡ whole)
told_halves image before between after whole bytes n m first second both all accepted one other =
    let halves = meaning.journalled_halves image before bytes n m (run_accepted image before whole (n + m) both all accepted) in
    let middle = run_leaves image before between n first one in (
      run_told image before between n first one ∙ ap numbers_of halves.first_count,
      run_told image between after m second other ∙ rw middle (ap numbers_of halves.second_count),
      run_leaves image between after m second other ∙ rw middle halves.same ∙ sym (run_leaves image before whole (n + m) both all),
    )

-- ---- stepping back
module _ (image : List ℕ) (before after : LentJournal) (k : ℕ) (h : HostAnswer) (called : Called image before (goes_back k) h after) where
  back_told : told h ≡ numbers_of (step_back image before k).answer
  unfolding perform
  back_told = called_told image before after (goes_back k) h called

  back_leaves : after ≡ (step_back image before k).lent
  unfolding perform
  back_leaves = called_leaves image before after (goes_back k) h called

  back_accepted : h.number ≡ 0 → (numbers_of (step_back image before k).answer).number ≡ 0
  back_accepted accepted = sym (ap (λ (x : Numbers). x.number) back_told) ∙ accepted

  -- what the definition leaves where it accepts, as the host has it
  back_left : {c : ℕ} → (step_back image before k).answer ≡ Accepted c → step_back image before k ≡ record { answer = Accepted c; lent = after }
  back_left e = let same = sym back_leaves in λ i. record { answer = e i; lent = same i }

  -- 02, E2: one that is accepted and restores a state leaves every register within its width, whatever bytes the journal held.
  pub back_told_within_widths : 0 < k → h.number ≡ 0 → WithinWidths (design_of image) after.areas.registers
  back_told_within_widths some accepted = rw back_leaves (meaning.steps_within_widths image before k some (back_accepted accepted))

-- "With k of 0 nothing changes", accepted or refused.
pub told_back_none : (image : List ℕ) (before after : LentJournal) (h : HostAnswer) → Called image before (goes_back 0) h after → after ≡ before
told_back_none image before after h called = back_leaves image before after 0 h called ∙ meaning.step_back_none image before

-- Behind an accepted journalled run of n cycles, a step back is accepted.
module _
    (image : List ℕ) (before ran after : LentJournal) (bytes : AreBytes before.areas.registers) (n k : ℕ) (one other : HostAnswer)
    (first : Called image before (runs_journalled n) one ran) (accepted : one.number ≡ 0) (second : Called image ran (goes_back k) other after)
  where
    -- "Commissioning staff overshoot the cycle they want to see": by k of them it leaves the areas that a run of n - k leaves, and a journal that counts and saves what it had
    -- and those n - k cycles, with every byte behind the count as it was.
    pub told_back_some : k ≤ n → (told other ≡ record { number = 0; place = 0; count = k }) × BackAt image before ran k (n - k) (record { answer = Accepted k; lent = after })
    told_back_some l =
        let back : BackAt image before ran k (n - k) (step_back image ran k) = rw (run_leaves image before ran n one first) (meaning.back_some image before bytes n k l (run_accepted image before ran n one first accepted)) in
        (back_told image ran after k other second ∙ ap numbers_of back.answer, rw (back_left image ran after k other second back.answer) at back)

    -- "Going back k cycles restores the areas as the journal saved them before the k-th last cycle it counts .. and in the journal only lowers the count, by k": by all n it
    -- leaves the areas as they were before the run, and a journal that counts and saves what it did, with every byte behind the count as it was.
    pub told_back_returns : k ≡ n → (told other ≡ record { number = 0; place = 0; count = k }) × Returned image before ran k (record { answer = Accepted k; lent = after })
    told_back_returns all =
        let back : Returned image before ran k (step_back image ran k) = rw (run_leaves image before ran n one first, all) (meaning.back_returns image before bytes n (run_accepted image before ran n one first accepted)) in
        (back_told image ran after k other second ∙ ap numbers_of back.answer, rw (back_left image ran after k other second back.answer) at back)

-- Going back j cycles and then k is going back j + k, where both states are sound: the second step is accepted and leaves the same three areas.
pub told_steps_add :
    (image : List ℕ) (before between after whole : LentJournal) (j k : ℕ)
    → (first second both : HostAnswer)
    → Called image before (goes_back (j + k)) both whole
    → both.number ≡ 0
    → Called image before (goes_back j) first between
    → first.number ≡ 0
    → Called image between (goes_back k) second after
    → (told second ≡ record { number = 0; place = 0; count = k }) × (after ≡ whole)
told_steps_add image before between after whole j k first second both all accepted one begun other =
    let added = meaning.steps_back_add image before j k (back_accepted image before whole (j + k) both all accepted) (back_accepted image before between j first one begun) in
    let middle = back_leaves image before between j first one in (
      back_told image between after k second other ∙ rw middle (ap (λ (x : Left LentJournal). numbers_of x.answer) added),
      back_leaves image between after k second other ∙ rw middle (ap (λ (x : Left LentJournal). x.lent) added) ∙ sym (back_leaves image before whole (j + k) both all),
    )
