-- 02, E9: the two calls. For each, one function from everything lent and given to the answer and every byte of the three areas afterwards, refusals included.
use Rattle.std.specs.Prelude.{ℕ, zero, suc, ◌+◌, ◌-◌, List, ◌++◌, leb, length, get_or}
use Rattle.model.specs.declared.Refusal.TheVariants.{JournalArea, StepsBack}
use Rattle.model.specs.Answers.{Answer, Accepted}
use Rattle.model.specs.Image.{Design, design_of}
use Rattle.model.specs.Verdict.{◌before◌, refused_at, at_zero_unless}
use Rattle.model.specs.Machine.{cycles}
use Rattle.model.specs.Calls.{Lent, Left, leaves, areas_of, reset_answer, run_answer, run}
use Rattle.journal_model.specs.Journals.{count_in, journal_with, recounted, nothing_saved, saved_length, saved_in, has_room, saved_before}

-- the bytes of the three areas that the host lends
pub record LentJournal : Type 0 where
  pub areas : Lent
  pub journal : List ℕ

-- 21, place 0: there is no room for what the journal counts and n cycles more
unfoldable pub room_answer : Design → List ℕ → ℕ → Answer
room_answer d journal n = refused_at JournalArea (at_zero_unless (has_room (saved_length d) (count_in journal + n) (length journal)))

-- 22, place 0: "a k above the count"
unfoldable pub steps_answer : List ℕ → ℕ → Answer
steps_answer journal k = refused_at StepsBack (at_zero_unless (leb k (count_in journal)))

-- the state that was saved "before the k-th last cycle it counts"
unfoldable pub saved_back : Design → List ℕ → ℕ → Lent
saved_back d journal k = get_or (saved_in d journal) (count_in journal - k) nothing_saved

module _ (image : List ℕ) (lent : LentJournal) where
  -- "It refuses with 21, after 15"
  unfoldable pub run_journalled_answer : ℕ → Answer
  run_journalled_answer n = run_answer image lent.areas n before room_answer (design_of image) lent.journal n before Accepted n

  -- "A journalled run is a run that also saves both areas .. before every cycle"
  unfoldable pub run_journalled : ℕ → Left LentJournal
  run_journalled n =
      let d = design_of image in
      let ran = cycles d n (areas_of d lent.areas) in
      leaves
      (run_journalled_answer n)
      lent
      (record {
        areas = (run image lent.areas n).lent;
        journal = journal_with (saved_in d lent.journal ++ saved_before lent.areas ran) lent.journal;
      })

  -- "A saved state to be restored that is not sound is 14": judged as a run would judge it. With k of 0 none is restored.
  unfoldable pub saved_answer : ℕ → Answer
  saved_answer zero = Accepted 0
  saved_answer (suc k) = run_answer image (saved_back (design_of image) lent.journal (suc k)) 0

  -- It overwrites both areas whole, so of these it judges only the lengths, as reset does. "22, after 21"; 14 of the saved state "judged after 22"; "15 sets k no
  -- limit".
  unfoldable pub step_back_answer : ℕ → Answer
  step_back_answer k =
      reset_answer image lent.areas
      before room_answer (design_of image) lent.journal 0
      before steps_answer lent.journal k
      before saved_answer k
      before Accepted k

  -- "restores the areas as the journal saved them before the k-th last cycle it counts .. and in the journal only lowers the count, by k. With k of 0 nothing
  -- changes"
  unfoldable pub restored : ℕ → LentJournal
  restored zero = lent
  restored (suc k) =
      record { areas = saved_back (design_of image) lent.journal (suc k); journal = recounted (count_in lent.journal - suc k) lent.journal }

  unfoldable pub step_back : ℕ → Left LentJournal
  step_back k = leaves (step_back_answer k) lent (restored k)
