-- The two calls refuse exactly: a journalled run judges as a run does and then its journal, and a step back as a reset does, then the journal, the steps and the saved
-- state; each stage decides its pass of the table.
use Prim.Native.Nat.{ℕ, zero, suc}
use mathlib.Core.List.{List, append-nil}
use Rattle.model.specs.Image.{design_of}
use Rattle.model.specs.Refusals.{in_numbers, Exactly}
use Rattle.model.proofs.Laws.Equivalences.{at_most_iff}
use Rattle.model.proofs.Laws.Broken.{Decides, decides_before, decides_none}
use Rattle.model.proofs.Laws.Finds.{finds_zero}
use Rattle.model.proofs.Refused.{stage, reset_decides, run_decides, exactly}
use Rattle.journal_model.specs.Calls.{LentJournal, room_answer, steps_answer, saved_back, run_journalled_answer, run_journalled, saved_answer, step_back_answer, step_back}
use Rattle.journal_model.specs.Rules.{run_journalled_table, saved_table, step_back_table}
use Rattle.journal_model.proofs.Laws.{room_iff}

module _ (image : List ℕ) (lent : LentJournal) where
  pub run_journalled_decides : (n : ℕ) → Decides (run_journalled_answer image lent n) n (run_journalled_table image lent n)
  unfolding run_journalled_answer room_answer
  run_journalled_decides n =
      decides_before (run_decides image lent.areas n) (λ kept. stage (finds_zero (room_iff (design_of image) lent.journal n)) (decides_none n))

  saved_decides : (k : ℕ) → Decides (saved_answer image lent k) 0 (saved_table image lent k)
  unfolding saved_answer
  saved_decides zero = decides_none 0
  saved_decides (suc k) = run_decides image (saved_back (design_of image) lent.journal (suc k)) 0

  pub step_back_decides : (k : ℕ) → Decides (step_back_answer image lent k) k (step_back_table image lent k)
  unfolding step_back_answer room_answer steps_answer
  step_back_decides k =
      decides_before
      (reset_decides image lent.areas)
      (λ kept. stage (finds_zero (room_iff (design_of image) lent.journal 0))
      (stage (finds_zero at_most_iff)
      (rw (append-nil (saved_table image lent k)) at (decides_before (saved_decides k) (λ sound. decides_none k)))))

  pub run_journalled_exactly : (n : ℕ) → Exactly (run_journalled_table image lent n) n lent (in_numbers (run_journalled image lent n))
  unfolding run_journalled
  run_journalled_exactly n = exactly _ (run_journalled_decides n)

  pub step_back_exactly : (k : ℕ) → Exactly (step_back_table image lent k) k lent (in_numbers (step_back image lent k))
  unfolding step_back
  step_back_exactly k = exactly _ (step_back_decides k)
