-- The contracts of the exported functions that check an image or change areas, as the promises take them: each is the postcondition that the function is proved to have, and its tie
-- says that it is the equation with the definition. A contract that says less than the definition is refused here, at its tie. What it is to have called a function is said with its
-- postcondition, so these words stand here and not in specs/.
use Prim.Native.Nat.{ℕ}
use mathlib.Core.Path.{◌≡◌, refl}
use mathlib.Core.List.{List, [], ◌∷◌}
use seplogic.Ra.Ura.{Ura}
use base.Logic.{SProp, emp}
use prog.Memory.{Memory}
use prog.Routine.{Routine}
use types.Logic.{Logic}
use contract.Lifetimes.{Lfts}
use contract.Monad.{Fun, fact}
use denote.Bor.{Bor}
use denote.MutBor.{MutBor, Gone}
use denote.Triple.Entry.{Args}
use denote.Triple.Clauses.{AtExit}
use borrow.Fn.Kinds.{Dens, ended_of}
use Rattle.model.specs.Image.{design_of}
use Rattle.model.specs.Answers.{numbers_of}
use Rattle.model.specs.Refusals.{in_numbers}
use Rattle.model.specs.Calls.{Lent, check, registers_length, targets_length, reset, write_port, run}
use Rattle.model.specs.Parties.{with_targets, Beginning, with_unseen}
use Rattle.model.specs.Parties as parties
use Rattle.design.specs.Resets.{lends}
use Rattle.journal_model.specs.Journals.{count_in}
use Rattle.journal_model.specs.Calls.{LentJournal, run_journalled, step_back}
use Rattle.journal.specs.Stages.{lends_journal}
use Rattle.replay_model.specs.declared.TraceRecord.{TraceRecord}
use Rattle.replay_model.specs.Calls.{replay}
use Rattle.lists_model.specs.Lists.{Call, resets, writes, runs, runs_journalled, goes_back, replays, with_journal, perform}
use Rattle.caisson.specs.declared.HostAnswer.{HostAnswer}
use Rattle.caisson.specs.Told.{told, told_left}
use Rattle.caisson.proofs.Answered.{left_in_told}
use Rattle.caisson.proofs.caisson_check.Kinds as check-kinds
use Rattle.caisson.proofs.caisson_check.Reads as check-reads
use Rattle.caisson.proofs.caisson_registers_length.Kinds as registers-length-kinds
use Rattle.caisson.proofs.caisson_registers_length.Reads as registers-length-reads
use Rattle.caisson.proofs.caisson_targets_length.Kinds as targets-length-kinds
use Rattle.caisson.proofs.caisson_targets_length.Reads as targets-length-reads
use Rattle.caisson.proofs.caisson_reset.Kinds as reset-kinds
use Rattle.caisson.proofs.caisson_reset.Reads as reset-reads
use Rattle.caisson.proofs.caisson_write_port.Kinds as write-port-kinds
use Rattle.caisson.proofs.caisson_write_port.Reads as write-port-reads
use Rattle.caisson.proofs.caisson_run.Kinds as run-kinds
use Rattle.caisson.proofs.caisson_run.Reads as run-reads
use Rattle.caisson.proofs.caisson_run_journalled.Kinds as run-journalled-kinds
use Rattle.caisson.proofs.caisson_run_journalled.Reads as run-journalled-reads
use Rattle.caisson.proofs.caisson_step_back.Kinds as step-back-kinds
use Rattle.caisson.proofs.caisson_step_back.Reads as step-back-reads
use Rattle.caisson.specs.contracts.caisson_replay as replay-exported

-- ---- the ties: a function's postcondition, at any arguments (a), answer (h) and arguments at exit (e)
pub check_tie : (κs : Lfts 1) (a : Dens κs check-kinds.ps) (h : HostAnswer) (e : AtExit (ended_of 1 check-kinds.ps check-kinds.r) κs)
    → check-reads.Post κs a h e
    → told h ≡ numbers_of (check a.0.now)
check_tie κs a h e post = post

pub registers_length_tie :
    (κs : Lfts 1) (a : Dens κs registers-length-kinds.ps) (h : HostAnswer) (e : AtExit (ended_of 1 registers-length-kinds.ps registers-length-kinds.r) κs)
    → registers-length-reads.Post κs a h e
    → told h ≡ numbers_of (registers_length a.0.now)
registers_length_tie κs a h e post = post

pub targets_length_tie :
    (κs : Lfts 1) (a : Dens κs targets-length-kinds.ps) (h : HostAnswer) (e : AtExit (ended_of 1 targets-length-kinds.ps targets-length-kinds.r) κs)
    → targets-length-reads.Post κs a h e
    → told h ≡ numbers_of (targets_length a.0.now)
targets_length_tie κs a h e post = post

pub reset_tie : (κs : Lfts 3) (a : Dens κs reset-kinds.ps) (h : HostAnswer) (e : AtExit (ended_of 3 reset-kinds.ps reset-kinds.r) κs)
    → reset-reads.Post κs a h e
    → told_left h (lends e.1.0.now e.1.1.0.now) ≡ in_numbers (reset a.0.now (lends a.1.0.now a.1.1.0.now))
reset_tie κs a h e post = post

pub write_port_tie : (κs : Lfts 2) (a : Dens κs write-port-kinds.ps) (h : HostAnswer) (e : AtExit (ended_of 2 write-port-kinds.ps write-port-kinds.r) κs)
    → write-port-reads.Post κs a h e
    → told_left h e.1.0.now ≡ in_numbers (write_port a.0.now a.1.0.now a.1.1.0 a.1.1.1.0)
write_port_tie κs a h e post = post

pub run_tie : (κs : Lfts 3) (a : Dens κs run-kinds.ps) (h : HostAnswer) (e : AtExit (ended_of 3 run-kinds.ps run-kinds.r) κs)
    → run-reads.Post κs a h e
    → told_left h (lends e.1.0.now e.1.1.0.now) ≡ in_numbers (run a.0.now (lends a.1.0.now a.1.1.0.now) a.1.1.1.0)
run_tie κs a h e post = post

pub run_journalled_tie :
    (κs : Lfts 4) (a : Dens κs run-journalled-kinds.ps) (h : HostAnswer) (e : AtExit (ended_of 4 run-journalled-kinds.ps run-journalled-kinds.r) κs)
    → run-journalled-reads.Post κs a h e
    → told_left h (lends_journal e.1.0.now e.1.1.0.now e.1.1.1.0.now)
    ≡ in_numbers (run_journalled a.0.now (lends_journal a.1.0.now a.1.1.0.now a.1.1.1.0.now) a.1.1.1.1.0)
run_journalled_tie κs a h e post = post

pub step_back_tie : (κs : Lfts 4) (a : Dens κs step-back-kinds.ps) (h : HostAnswer) (e : AtExit (ended_of 4 step-back-kinds.ps step-back-kinds.r) κs)
    → step-back-reads.Post κs a h e
    → told_left h (lends_journal e.1.0.now e.1.1.0.now e.1.1.1.0.now)
    ≡ in_numbers (step_back a.0.now (lends_journal a.1.0.now a.1.1.0.now a.1.1.1.0.now) a.1.1.1.1.0)
step_back_tie κs a h e post = post

-- The exported replay is lent a slice of structs. Its tie is with the clause itself: in every model of the logic it is the fact that the equation with the definition holds. A clause that
-- says less is refused here.
abbrev pub Replayed : List ℕ → Lent → List TraceRecord → ℕ → HostAnswer → Lent → Type 0
Replayed image before trace n h after = told_left h after ≡ in_numbers (replay image before trace n)

module _
    {M : Type 1} {𝓤 : Ura M} (𝓛 : Logic 𝓤) (mem : Memory → SProp 𝓤) (run : Routine → Fun 𝓤) (κs : Lfts 4) (a : Args (replay-exported.ended).signature κs)
  where
    pub replay_tie : (h : HostAnswer) (e : AtExit replay-exported.ended κs)
        → (replay-exported.clauses 𝓛 mem run κs a).ensures tt h e
        ≡ fact 𝓤 (Replayed a.0.now (lends a.1.0.now a.1.1.0.now) a.1.1.1.0.now a.1.1.1.1.0 h (lends e.1.0.now e.1.1.0.now))
    replay_tie h e = refl

    pub replay_asks_nothing : (replay-exported.clauses 𝓛 mem run κs a).requires tt ≡ emp 𝓤
    replay_asks_nothing = refl

-- ---- no function asks for anything
pub check_asks_nothing : (κs : Lfts 1) (a : Dens κs check-kinds.ps) → check-reads.Asked κs a
check_asks_nothing κs a = tt

pub registers_length_asks_nothing : (κs : Lfts 1) (a : Dens κs registers-length-kinds.ps) → registers-length-reads.Asked κs a
registers_length_asks_nothing κs a = tt

pub targets_length_asks_nothing : (κs : Lfts 1) (a : Dens κs targets-length-kinds.ps) → targets-length-reads.Asked κs a
targets_length_asks_nothing κs a = tt

pub reset_asks_nothing : (κs : Lfts 3) (a : Dens κs reset-kinds.ps) → reset-reads.Asked κs a
reset_asks_nothing κs a = tt

pub write_port_asks_nothing : (κs : Lfts 2) (a : Dens κs write-port-kinds.ps) → write-port-reads.Asked κs a
write_port_asks_nothing κs a = tt

pub run_asks_nothing : (κs : Lfts 3) (a : Dens κs run-kinds.ps) → run-reads.Asked κs a
run_asks_nothing κs a = tt

pub run_journalled_asks_nothing : (κs : Lfts 4) (a : Dens κs run-journalled-kinds.ps) → run-journalled-reads.Asked κs a
run_journalled_asks_nothing κs a = tt

pub step_back_asks_nothing : (κs : Lfts 4) (a : Dens κs step-back-kinds.ps) → step-back-reads.Asked κs a
step_back_asks_nothing κs a = tt

-- ---- calls of the exported functions
-- where the lent slices stand, and their ghost names: no contract speaks of these
pub record Slices : Type 0 where
  pub image : Gone
  pub registers : Gone
  pub targets : Gone
  pub journal : Gone

-- a slice with these bytes, as it is lent to be read, and as it is lent to be changed
abbrev pub shows : Gone → List ℕ → Bor (List ℕ)
shows slice bytes = record { ref_ptr = slice.ref_ptr; now = bytes }

abbrev pub holds : Gone → List ℕ → MutBor (List ℕ)
holds slice bytes = record { ref_ptr = slice.ref_ptr; ghost_name = slice.ghost_name; now = bytes }

-- the arguments of each function, at its entry and at its exit
module _ (s : Slices) (image : List ℕ) where
  abbrev image_with : Bor (List ℕ) × Unit {0}
  image_with = (shows s.image image, tt)

  abbrev write_port_with : (registers : List ℕ) (r v : ℕ) → Bor (List ℕ) × (MutBor (List ℕ) × (ℕ × (ℕ × Unit {0})))
  write_port_with registers r v = (shows s.image image, (holds s.registers registers, (r, (v, tt))))

  abbrev reset_with : Lent → Bor (List ℕ) × (MutBor (List ℕ) × (MutBor (List ℕ) × Unit {0}))
  reset_with lent = (shows s.image image, (holds s.registers lent.registers, (holds s.targets lent.targets, tt)))

  abbrev run_with : Lent → ℕ → Bor (List ℕ) × (MutBor (List ℕ) × (MutBor (List ℕ) × (ℕ × Unit {0})))
  run_with lent n = (shows s.image image, (holds s.registers lent.registers, (holds s.targets lent.targets, (n, tt))))

  abbrev journalled_with : LentJournal → ℕ → Bor (List ℕ) × (MutBor (List ℕ) × (MutBor (List ℕ) × (MutBor (List ℕ) × (ℕ × Unit {0}))))
  journalled_with lent n =
      (shows s.image image, (holds s.registers lent.areas.registers, (holds s.targets lent.areas.targets, (holds s.journal lent.journal, (n, tt)))))

-- Check was called with this image and answered h: its postcondition holds.
abbrev pub Checked : List ℕ → HostAnswer → Type 0
Checked image h = (κs : Lfts 1) × (s : Slices) × check-reads.Post κs (image_with s image) h (image_with s image)

-- The two functions that tell a length were called with this image and answered h.
abbrev pub RegistersMeasured : List ℕ → HostAnswer → Type 0
RegistersMeasured image h = (κs : Lfts 1) × (s : Slices) × registers-length-reads.Post κs (image_with s image) h (image_with s image)

abbrev pub TargetsMeasured : List ℕ → HostAnswer → Type 0
TargetsMeasured image h = (κs : Lfts 1) × (s : Slices) × targets-length-reads.Post κs (image_with s image) h (image_with s image)

-- The exported function of a call was called with these bytes and numbers and answered h: its postcondition holds of the answer and of the bytes after it. What it is not lent stays: the
-- journal in four of the six, and the targets in a port write.
abbrev pub Called : List ℕ → LentJournal → Call → HostAnswer → LentJournal → Type 0
Called image before resets h after =
    (after.journal ≡ before.journal) × (κs : Lfts 3) × (s : Slices) × reset-reads.Post κs (reset_with s image before.areas) h (reset_with s image after.areas)
Called image before (writes r v) h after =
    (after.journal ≡ before.journal)
    × (after.areas.targets ≡ before.areas.targets)
    × (κs : Lfts 2)
    × (s : Slices)
    × write-port-reads.Post κs (write_port_with s image before.areas.registers r v) h (write_port_with s image after.areas.registers r v)
Called image before (runs n) h after =
    (after.journal ≡ before.journal) × (κs : Lfts 3) × (s : Slices) × run-reads.Post κs (run_with s image before.areas n) h (run_with s image after.areas n)
Called image before (runs_journalled n) h after =
    (κs : Lfts 4) × (s : Slices) × run-journalled-reads.Post κs (journalled_with s image before n) h (journalled_with s image after n)
Called image before (goes_back k) h after = (κs : Lfts 4) × (s : Slices) × step-back-reads.Post κs (journalled_with s image before k) h (journalled_with s image after k)
Called image before (replays trace n) h after = (after.journal ≡ before.journal) × Replayed image before.areas trace n h after.areas

-- Calls were made, each on the areas and the journal as the one before it left them.
abbrev pub AllCalled : List ℕ → LentJournal → List Call → LentJournal → Type 0
AllCalled image before [] after = before ≡ after
AllCalled image before (call ∷ more) after = (h : HostAnswer) × (between : LentJournal) × Called image before call h between × AllCalled image between more after

-- A host's use of the box, as demand 3 has it: areas of the right lengths, a reset, any values within their widths in the registers not at or below the level, a journal that is empty
-- then, and calls behind, all through the exported functions.
pub record Hosted (image : List ℕ) (level : ℕ) : Type 0 where
  pub begins : Beginning (design_of image)
  pub journal : List ℕ
  pub empty : count_in journal ≡ 0
  pub answer : HostAnswer
  pub left : LentJournal
  pub reset : Called image (with_journal journal begins.lent) resets answer left
  pub calls : List Call
  pub end : LentJournal
  pub called : AllCalled image (with_journal journal (with_unseen image level begins.given left.areas)) calls end

-- ---- what was called was done
pub checked_told : (image : List ℕ) (h : HostAnswer) → Checked image h → told h ≡ numbers_of (check image)
checked_told image h (κs, s, post) = check_tie κs (image_with s image) h (image_with s image) post

pub registers_measured : (image : List ℕ) (h : HostAnswer) → RegistersMeasured image h → told h ≡ numbers_of (registers_length image)
registers_measured image h (κs, s, post) = registers_length_tie κs (image_with s image) h (image_with s image) post

pub targets_measured : (image : List ℕ) (h : HostAnswer) → TargetsMeasured image h → told h ≡ numbers_of (targets_length image)
targets_measured image h (κs, s, post) = targets_length_tie κs (image_with s image) h (image_with s image) post

pub called_made : (image : List ℕ) (before after : LentJournal) (call : Call) (h : HostAnswer) → Called image before call h after → told_left h after ≡ in_numbers (perform image before call)
unfolding perform parties.perform
called_made image before after resets h (kept, κs, s, post) =
    rw kept (left_in_told (reset image before.areas) (with_journal before.journal) (reset_tie κs (reset_with s image before.areas) h (reset_with s image after.areas) post))
called_made image before after (writes r v) h (kept, same, κs, s, post) =
    let wrote = write_port_tie κs (write_port_with s image before.areas.registers r v) h (write_port_with s image after.areas.registers r v) post in
    rw (kept, same) (left_in_told (write_port image before.areas.registers r v) (λ (registers : List ℕ). with_journal before.journal (with_targets before.areas.targets registers)) wrote)
called_made image before after (runs n) h (kept, κs, s, post) =
    rw kept (left_in_told (run image before.areas n) (with_journal before.journal) (run_tie κs (run_with s image before.areas n) h (run_with s image after.areas n) post))
called_made image before after (runs_journalled n) h (κs, s, post) = run_journalled_tie κs (journalled_with s image before n) h (journalled_with s image after n) post
called_made image before after (goes_back k) h (κs, s, post) = step_back_tie κs (journalled_with s image before k) h (journalled_with s image after k) post
called_made image before after (replays trace n) h (kept, replayed) = rw kept (left_in_told (replay image before.areas trace n) (with_journal before.journal) replayed)
