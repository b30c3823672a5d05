-- The calls of `Rattle.journal_model.specs.Calls` from the point where the image is
-- accepted on.
use Rattle.std.specs.Prelude.{ℕ, zero, suc, ◌-◌, List, ◌++◌}
use Rattle.model.specs.Answers.{Answer, Accepted}
use Rattle.model.specs.Image.{Design as Table}
use Rattle.model.specs.Verdict.{◌before◌}
use Rattle.model.specs.Machine.{cycles, after_cycles}
use Rattle.model.specs.Calls.{length_answer, cycles_answer, areas_of, lent_of, Left, leaves}
use Rattle.journal_model.specs.Journals.{count_in, journal_with, recounted, saved_in, saved_before}
use Rattle.journal_model.specs.Calls.{LentJournal, room_answer, steps_answer, saved_back}
use Rattle.design.specs.Resets.{lends}
use Rattle.running.specs.Stages.{sound_on}

abbrev pub lends_journal : List ℕ → List ℕ → List ℕ → LentJournal
lends_journal registers targets journal = record { areas = lends registers targets; journal = journal }

module _ (d : Table) (lent : LentJournal) where
  -- the areas and the journal after n journalled cycles
  unfoldable pub journalled_cycles : ℕ → LentJournal
  journalled_cycles n =
      record {
        areas = lent_of (after_cycles d n (areas_of d lent.areas));
        journal = journal_with (saved_in d lent.journal ++ saved_before lent.areas (cycles d n (areas_of d lent.areas))) lent.journal;
      }

  unfoldable pub run_journalled_on : ℕ → Left LentJournal
  run_journalled_on n =
      leaves
      (length_answer d lent.areas before sound_on d lent.areas before cycles_answer n before room_answer d lent.journal n before Accepted n)
      lent
      (journalled_cycles n)

  -- and once both areas are sound
  unfoldable pub run_journalled_sound : ℕ → Left LentJournal
  run_journalled_sound n = leaves (cycles_answer n before room_answer d lent.journal n before Accepted n) lent (journalled_cycles n)

  -- the areas and the journal once a step back by more than none restored them
  unfoldable pub stepped_back : ℕ → LentJournal
  stepped_back k = record { areas = saved_back d lent.journal k; journal = recounted (count_in lent.journal - k) lent.journal }

  abbrev pub saved_judged : ℕ → Answer
  saved_judged zero = Accepted 0
  saved_judged (suc k) = sound_on d (saved_back d lent.journal (suc k))

  abbrev pub stepped_back_by : ℕ → LentJournal
  stepped_back_by zero = lent
  stepped_back_by (suc k) = stepped_back (suc k)

  unfoldable pub step_back_on : ℕ → Left LentJournal
  step_back_on k =
      leaves
      (length_answer d lent.areas before room_answer d lent.journal 0 before steps_answer lent.journal k before saved_judged k before Accepted k)
      lent
      (stepped_back_by k)
