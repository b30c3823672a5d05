-- The call refuses exactly: the image as check does, and then the length of the output area; and a refusal leaves every byte of it.
use Prim.Native.Nat.{ℕ}
use mathlib.Core.List.{List}
use lib.ListN.{length}
use Rattle.model.specs.Refusals.{in_numbers, Exactly}
use Rattle.model.proofs.Laws.Equivalences.{at_most_iff}
use Rattle.model.proofs.Laws.Broken.{Decides, decides_before, decides_none}
use Rattle.model.proofs.Laws.Finds.{finds_zero}
use Rattle.model.proofs.Refused.{stage, image_decides, exactly}
use Rattle.filing_model.specs.Filed.{filed_image}
use Rattle.filing_model.specs.Calls.{file_answer, file}
use Rattle.filing_model.specs.Rules.{file_table}

module _ (image out : List ℕ) where
  file_decides : Decides (file_answer image out) (length (filed_image image)) (file_table image out)
  unfolding file_answer
  file_decides = decides_before (image_decides image) (λ kept. stage (finds_zero at_most_iff) (decides_none (length (filed_image image))))

  pub file_exactly : Exactly (file_table image out) (length (filed_image image)) out (in_numbers (file image out))
  unfolding file
  file_exactly = exactly _ file_decides
