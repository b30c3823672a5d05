-- What the exported calls told and left, from the postconditions (`Contracts`) and no more; and what the laws of the definitions say of it.
use Prim.Native.Nat.{ℕ, ◌+◌, ◌≤◌}
use mathlib.Core.Path.{◌≡◌, refl, sym, ◌∙◌, ap}
use mathlib.Core.Logic.Iff
use mathlib.Core.Logic.{◌↔◌}
use mathlib.Core.List.{List, [], ◌∷◌}
use Rattle.model.specs.Limits.{cycles_max}
use Rattle.model.specs.Image.{AreBytes, design_of}
use Rattle.model.specs.Answers.{Accepted, Numbers, numbers_of}
use Rattle.model.specs.Ports.{PortsKept}
use Rattle.model.specs.Calls.{Lent, Left, run}
use Rattle.model.specs.Refusals.{AllKept, image_table}
use Rattle.model.specs.Verdict.{verdict}
use Rattle.model.specs.Parties as parties
use Rattle.model.proofs.Exact.{verdict_exact}
use Rattle.model.proofs.Grouping.{Grouped}
use Rattle.model.proofs.Writing.{ChangesOnly}
use Rattle.model.proofs.Promises as meaning
use Rattle.journal_model.specs.Calls.{LentJournal}
use Rattle.lists_model.specs.Lists.{Call, writes, runs, perform, at_end}
use Rattle.caisson.specs.declared.HostAnswer.{HostAnswer}
use Rattle.caisson.specs.Told.{told}
use Rattle.caisson.proofs.Answered.{numbers_told, lent_told, number_told, accepted_told}
use Rattle.caisson.proofs.Contracts.{Checked, Called, AllCalled, checked_told, called_made}

-- ---- check
pub told_accepted : (image : List ℕ) (h : HostAnswer) → Checked image h → (told h ≡ record { number = 0; place = 0; count = 0 }) ↔ AllKept (image_table image)
told_accepted image h checked = rw (checked_told image h checked) (Iff.trans (meaning.accepted_exactly image) (meaning.keeps_exactly image))

pub told_verdict : (image : List ℕ) (h : HostAnswer) → Checked image h → told h ≡ record { number = 0; place = 0; count = 0 } → verdict image ≡ Accepted 0
told_verdict image h checked accepted = (verdict_exact image).1 ((meaning.keeps_exactly image).1 ((told_accepted image h checked).0 accepted))

-- what is accepted is told so
pub verdict_told : (image : List ℕ) (h : HostAnswer) → Checked image h → verdict image ≡ Accepted 0 → told h ≡ record { number = 0; place = 0; count = 0 }
verdict_told image h checked accepted = checked_told image h checked ∙ (meaning.accepted_exactly image).1 ((verdict_exact image).0 accepted)

-- ---- one call
module _ (image : List ℕ) (before after : LentJournal) (call : Call) (h : HostAnswer) (called : Called image before call h after) where
  abbrev left : Left LentJournal
  left = perform image before call

  pub called_told : told h ≡ numbers_of (perform image before call).answer
  called_told = numbers_told h after left (called_made image before after call h called)

  pub called_leaves : after ≡ (perform image before call).lent
  called_leaves = lent_told h after left (called_made image before after call h called)

  pub called_number : h.number ≡ (numbers_of (perform image before call).answer).number
  called_number = number_told h after left (called_made image before after call h called)

  pub called_accepted : h.number ≡ 0 → (numbers_of (perform image before call).answer).number ≡ 0
  called_accepted = accepted_told h after left (called_made image before after call h called)

pub all_called_ends : (image : List ℕ) (calls : List Call) (before after : LentJournal) → AllCalled image before calls after → after ≡ at_end image before calls
unfolding at_end
all_called_ends image [] before after same = sym same
all_called_ends image (call ∷ more) before after (h, between, called, others) =
    all_called_ends image more between after others ∙ ap (λ (lent : LentJournal). at_end image lent more) (called_leaves image before between call h called)

-- ---- 01's calls, of which the journal is no part
module _ (image : List ℕ) (before after : LentJournal) (h : HostAnswer) where
  pub run_told : (n : ℕ) → Called image before (runs n) h after → told h ≡ numbers_of (parties.perform image before.areas (parties.runs n)).answer
  unfolding perform
  run_told n called = called_told image before after (runs n) h called

  pub run_leaves : (n : ℕ) → Called image before (runs n) h after → after.areas ≡ (parties.perform image before.areas (parties.runs n)).lent
  unfolding perform
  run_leaves n called = ap (λ (lent : LentJournal). lent.areas) (called_leaves image before after (runs n) h called)

  pub run_of_none_left : AreBytes before.areas.registers → Called image before (runs 0) h after → after ≡ before
  unfolding perform parties.perform
  run_of_none_left bytes called =
      called_leaves image before after (runs 0) h called
      ∙ ap {B = LentJournal} (λ (areas : Lent). record { areas = areas; journal = before.journal }) (meaning.run_of_none image before.areas bytes)

  pub write_changes : AreBytes before.areas.registers → (r v : ℕ) → Called image before (writes r v) h after
      → ChangesOnly r v before.areas.registers (told h) after.areas.registers × (after.areas.targets ≡ before.areas.targets) × (after.journal ≡ before.journal)
  unfolding perform parties.perform
  write_changes bytes r v called =
      let leaves = called_leaves image before after (writes r v) h called in
      rw (leaves, called_told image before after (writes r v) h called) (meaning.write_changes_only image before.areas.registers bytes r v, refl, refl)

  pub run_ports : AreBytes before.areas.registers → (n : ℕ) → Called image before (runs n) h after → PortsKept (design_of image) before.areas.registers after.areas.registers
  unfolding parties.perform
  run_ports bytes n called = rw (run_leaves n called) (meaning.ports_kept image before.areas bytes n)

-- numbers that are equal group alike
grouped_alike : (n m : ℕ) {x x' y y' z z' : Numbers} → x ≡ x' → y ≡ y' → z ≡ z' → Grouped n m x' y' z' → Grouped n m x y z
grouped_alike n m first second both h = rw (first, second, both) h

pub grouped_told :
    (image : List ℕ) (before between after whole : LentJournal) (n m : ℕ)
    → n + m ≤ cycles_max
    → (first second both : HostAnswer)
    → Called image before (runs n) first between
    → Called image between (runs m) second after
    → Called image before (runs (n + m)) both whole
    → (after.areas ≡ whole.areas) × Grouped n m (told first) (told second) (told both)
unfolding parties.perform
grouped_told image before between after whole n m few first second both one other all =
    let grouped = meaning.runs_grouped image before.areas n m few in
    let one_leaves = run_leaves image before between first n one in
    let other_leaves = run_leaves image between after second m other in
    let all_leaves = run_leaves image before whole both (n + m) all in (
      other_leaves ∙ ap (λ (lent : Lent). (run image lent m).lent) one_leaves ∙ grouped.0 ∙ sym all_leaves,
      grouped_alike n m
          (run_told image before between first n one)
          (run_told image between after second m other ∙ ap (λ (lent : Lent). numbers_of (run image lent m).answer) one_leaves)
          (run_told image before whole both (n + m) all)
          grouped.1,
    )
