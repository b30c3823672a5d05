-- The image first: behind an accepted image the calls are those of `Stages`. What a run judges of lent areas a step back judges of the saved state, whose lengths are
-- right where the journal has room for all that it counts.
use Rattle.std.specs.Prelude.{None, Err}
use Prim.Native.Nat.{ℕ, zero, suc, ◌+◌, ◌-◌, ◌*◌, ◌≤◌}
use mathlib.Core.Path.{◌≡◌, refl, sym, ◌∙◌, ap}
use mathlib.Core.Bool.{Bool, true, false}
use mathlib.Core.List.{List, ◌++◌}
use native.Mathlib.Omega.{arith}
use lib.Dec.{leb}
use lib.ListN.{length}
use borrow.Author.Tests.{eq-eqb, leb-true}
use Rattle.model.specs.declared.RefusedAt.{RefusedAt}
use Rattle.model.specs.declared.Refusal.TheVariants.{JournalArea, StepsBack}
use Rattle.model.specs.Answers.{Answer, Accepted}
use Rattle.model.specs.Image.{Design as Table, design_of}
use Rattle.model.specs.Verdict.{verdict, refused_at, at_zero_unless, ◌before◌}
use Rattle.model.specs.Machine.{cycles, after_cycles}
use Rattle.model.specs.Calls.{Lent, leaves, length_answer, cycles_answer, areas_of, lent_of, reset_answer, run_answer, run, left_as, Left}
use Rattle.model.specs.Parties.{RightLengths}
use Rattle.model.proofs.Laws.Verdict.{found_nothing}
use Rattle.running.specs.Stages.{sound_on}
use Rattle.running.proofs.RunningRules.{sound_before}
use Rattle.journal_model.specs.Journals.{count_in, journal_with, saved_length, saved_in, has_room, saved_before}
use Rattle.journal_model.specs.Calls.{LentJournal, room_answer, steps_answer, saved_back, run_journalled_answer, run_journalled, saved_answer, restored, step_back_answer, step_back}
use Rattle.journal_model.specs.Rules.{RoomKeeps}
use Rattle.journal_model.proofs.Laws.{sized_in, sized_at, length-saved_in, room_iff}
use Rattle.journal.specs.Stages.{lends_journal, journalled_cycles, run_journalled_on, stepped_back, saved_judged, stepped_back_by, step_back_on}

-- ---- a journalled run
-- areas that a refused run leaves are those lent, whatever it would make
ran_as : (a behind : Answer) (lent : LentJournal) (made : Lent) (journal : List ℕ) → leaves (a before behind) lent (record { areas = (leaves a lent.areas made).lent; journal = journal }) ≡ leaves (a before behind) lent (record { areas = made; journal = journal })
unfolding ◌before◌
ran_as (Err why) behind lent made journal = refl
ran_as (Accepted n) behind lent made journal = refl

-- what follows an accepted count follows what was judged before it
count_between : (a b c behind : Answer) (n : ℕ) → ((a before b before c before Accepted n) before behind) ≡ (a before b before c before behind)
unfolding ◌before◌
count_between (Err why) b c behind n = refl
count_between (Accepted i) (Err why) c behind n = refl
count_between (Accepted i) (Accepted j) (Err why) behind n = refl
count_between (Accepted i) (Accepted j) (Accepted k) behind n = refl

module _ (image : List ℕ) {c : ℕ} (accepted : verdict image ≡ Accepted c) where
  run_judges : (lent : Lent) (n : ℕ) → run_answer image lent n ≡ (length_answer (design_of image) lent before sound_on (design_of image) lent before cycles_answer n before Accepted n)
  unfolding run_answer ◌before◌
  run_judges lent n = rw (accepted, ← sound_before (design_of image) lent (cycles_answer n before Accepted n))

  run_as : (lent : LentJournal) (n : ℕ) → run_journalled_on (design_of image) lent n ≡ run_journalled image lent n
  unfolding run_journalled run_journalled_answer run_journalled_on journalled_cycles run
  run_as lent n =
      let d = design_of image in
      let areas = lent.areas in
      let behind = room_answer d lent.journal n before Accepted n in
      let answers : (run_answer image areas n before behind) ≡ (length_answer d areas before sound_on d areas before cycles_answer n before behind) =
      ap (λ (answer : Answer). answer before behind) (run_judges areas n) ∙ count_between (length_answer d areas) (sound_on d areas) (cycles_answer n) behind n in
      sym
      (ran_as (run_answer image areas n) behind lent (lent_of (after_cycles d n (areas_of d areas))) (journal_with (saved_in d lent.journal ++ saved_before areas (cycles d n (areas_of d areas))) lent.journal)
      ∙ ap (λ (answer : Answer). leaves answer lent (record { areas = lent_of (after_cycles d n (areas_of d areas)); journal = journal_with (saved_in d lent.journal ++ saved_before areas (cycles d n (areas_of d areas))) lent.journal })) answers)

-- ---- a step back
-- what is behind two answers counts only where they accept
behind_both : (a b : Answer) {x y : Answer} → ((i j : ℕ) → a ≡ Accepted i → b ≡ Accepted j → x ≡ y) → (a before b before x) ≡ (a before b before y)
unfolding ◌before◌
behind_both (Err why) b h = refl
behind_both (Accepted i) (Err why) h = refl
behind_both (Accepted i) (Accepted j) h = h i j refl refl

count_after : (a : Answer) (k : ℕ) → ((a before Accepted 0) before Accepted k) ≡ (a before Accepted k)
unfolding ◌before◌
count_after (Err why) k = refl
count_after (Accepted i) k = refl

unless_true : (b : Bool) → at_zero_unless b ≡ None → b ≡ true
unless_true true h = refl
unless_true false h = let z : ◌≡◌ {A = ℕ} 0 1 = cc in absurd (omega arith)

-- what the two answers accepted
room_accepted : (d : Table) (journal : List ℕ) {i : ℕ} → room_answer d journal 0 ≡ Accepted i → RoomKeeps d journal 0
unfolding room_answer
room_accepted d journal h =
    let test = has_room (saved_length d) (count_in journal + 0) (length journal) in
    (room_iff d journal 0).0 (unless_true test (found_nothing JournalArea (at_zero_unless test) h))

steps_accepted : (journal : List ℕ) (k : ℕ) {j : ℕ} → steps_answer journal k ≡ Accepted j → k ≤ count_in journal
unfolding steps_answer
steps_accepted journal k h = leb-true k (count_in journal) (unless_true (leb k (count_in journal)) (found_nothing StepsBack (at_zero_unless (leb k (count_in journal))) h))

-- so the saved state has the right lengths
saved_sized : (d : Table) (journal : List ℕ) (k : ℕ) → RoomKeeps d journal 0 → suc k ≤ count_in journal → RightLengths d (saved_back d journal (suc k))
unfolding saved_back
saved_sized d journal k room l =
    let none : count_in journal + 0 ≡ count_in journal = omega arith in
    let long = length-saved_in d journal in
    sized_at (sized_in journal (rw none at room.room)) (count_in journal - suc k) (omega arith)

lengths_accepted : (d : Table) (lent : Lent) → RightLengths d lent → length_answer d lent ≡ Accepted 0
unfolding length_answer refused_at
lengths_accepted d lent right =
    rw (eq-eqb (length lent.registers) (4 * length d.registers) right.registers, eq-eqb (length lent.targets) (3 * length d.states) right.targets)

module _ (image : List ℕ) {c : ℕ} (accepted : verdict image ≡ Accepted c) where
  saved_run : (lent : Lent) → RightLengths (design_of image) lent → run_answer image lent 0 ≡ (sound_on (design_of image) lent before Accepted 0)
  unfolding cycles_answer refused_at ◌before◌
  saved_run lent right = run_judges image accepted lent 0 ∙ rw (lengths_accepted (design_of image) lent right)

  saved_judges : (lent : LentJournal) (k : ℕ) → RoomKeeps (design_of image) lent.journal 0 → k ≤ count_in lent.journal → (saved_judged (design_of image) lent k before Accepted k) ≡ (saved_answer image lent k before Accepted k)
  unfolding saved_answer
  saved_judges lent zero room l = refl
  saved_judges lent (suc k) room l =
      let saved = saved_back (design_of image) lent.journal (suc k) in
      sym (ap (λ (answer : Answer). answer before Accepted (suc k)) (saved_run saved (saved_sized (design_of image) lent.journal k room l)) ∙ count_after (sound_on (design_of image) saved) (suc k))

  reset_judges : (lent : Lent) → length_answer (design_of image) lent ≡ reset_answer image lent
  unfolding reset_answer ◌before◌
  reset_judges lent = rw accepted

  restores : (lent : LentJournal) (k : ℕ) → stepped_back_by (design_of image) lent k ≡ restored image lent k
  unfolding restored stepped_back
  restores lent zero = refl
  restores lent (suc k) = refl

  step_as : (lent : LentJournal) (k : ℕ) → step_back_on (design_of image) lent k ≡ step_back image lent k
  unfolding step_back_on step_back step_back_answer
  step_as lent k =
      let d = design_of image in
      let room = room_answer d lent.journal 0 in
      let steps = steps_answer lent.journal k in
      let behind : (room before steps before saved_judged d lent k before Accepted k) ≡ (room before steps before saved_answer image lent k before Accepted k) =
      behind_both room steps (λ i j h g. saved_judges lent k (room_accepted d lent.journal h) (steps_accepted lent.journal k g)) in
      ap (λ (answer : Answer). leaves (length_answer d lent.areas before answer) lent (stepped_back_by d lent k)) behind
      ∙ ap (λ (answer : Answer). leaves (answer before room before steps before saved_answer image lent k before Accepted k) lent (stepped_back_by d lent k)) (reset_judges lent.areas)
      ∙ ap (λ (made : LentJournal). leaves (reset_answer image lent.areas before room before steps before saved_answer image lent k before Accepted k) lent made) (restores lent k)

-- ---- the calls
module _ (image : List ℕ) {a : Answer} (e : a ≡ verdict image) where
  module _ {why : RefusedAt} (h : a ≡ Err why) (registers targets journal : List ℕ) where
    pub refused_run : (n : ℕ) → left_as (Err why) (lends_journal registers targets journal) ≡ run_journalled image (lends_journal registers targets journal) n
    unfolding run_journalled run_journalled_answer run_answer ◌before◌
    refused_run n = rw (← e, h)

    pub refused_step : (k : ℕ) → left_as (Err why) (lends_journal registers targets journal) ≡ step_back image (lends_journal registers targets journal) k
    unfolding step_back step_back_answer reset_answer ◌before◌
    refused_step k = rw (← e, h)

  module _ {c : ℕ} (h : a ≡ Accepted c) {left : Left LentJournal} (lent : LentJournal) where
    pub accepted_run : (n : ℕ) → left ≡ run_journalled_on (design_of image) lent n → left ≡ run_journalled image lent n
    accepted_run n k = k ∙ run_as image (sym e ∙ h) lent n

    pub accepted_step : (k : ℕ) → left ≡ step_back_on (design_of image) lent k → left ≡ step_back image lent k
    accepted_step k made = made ∙ step_as image (sym e ∙ h) lent k
