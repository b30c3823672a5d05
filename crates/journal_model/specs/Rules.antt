-- 02, E9: the table of refusals of the two calls, as propositions in the order in which they are judged. `AnswersBy` of `Rattle.model.specs.Refusals` says what it
-- is to answer by such a table.
use Rattle.std.specs.Prelude.{ℕ, zero, suc, ◌+◌, ◌*◌, ◌≤◌, ◌<◌, List, [], ◌∷◌, ◌++◌, length}
use Rattle.model.specs.declared.Refusal.TheVariants.{JournalArea, StepsBack}
use Rattle.model.specs.Limits.{value_count}
use Rattle.model.specs.Image.{Design, design_of}
use Rattle.model.specs.Refusals.{Pass, ◌asks◌, at, reset_table, run_table}
use Rattle.journal_model.specs.Journals.{count_length, count_in, saved_length}
use Rattle.journal_model.specs.Calls.{LentJournal, saved_back}

-- 21: "a journal under 4 bytes, or too short for its count and the cycles to run, or whose new count passes 32 bits"
pub record RoomKeeps (d : Design) (journal : List ℕ) (n : ℕ) : Type 0 where
  pub counts : count_length ≤ length journal
  pub room : count_length + saved_length d * (count_in journal + n) ≤ length journal
  pub fits : count_in journal + n < value_count

module _ (image : List ℕ) (lent : LentJournal) where
  -- a run's rules, then 21
  abbrev pub run_journalled_table : ℕ → List Pass
  run_journalled_table n = run_table image lent.areas n ++ ((JournalArea asks at 0 (RoomKeeps (design_of image) lent.journal n) ∷ []) ∷ [])

  -- "A saved state to be restored that is not sound is 14": a run's rules of that state
  abbrev pub saved_table : ℕ → List Pass
  saved_table zero = []
  saved_table (suc k) = run_table image (saved_back (design_of image) lent.journal (suc k)) 0

  -- a reset's rules, then 21, 22, and the rules of the saved state
  abbrev pub step_back_table : ℕ → List Pass
  step_back_table k =
      reset_table image lent.areas
      ++ ((JournalArea asks at 0 (RoomKeeps (design_of image) lent.journal 0) ∷ [])
      ∷ (StepsBack asks at 0 (k ≤ count_in lent.journal) ∷ [])
      ∷ saved_table k)
