-- The call refuses exactly: the image as check does, and then the length of the output area; and a refusal leaves every byte of it.
use Prim.Native.Nat.{ℕ}
use mathlib.Core.List.{List}
use lib.ListN.{length}
use Rattle.model.specs.Refusals.{in_numbers, Exactly}
use Rattle.model.proofs.Laws.Equivalences.{at_most_iff}
use Rattle.model.proofs.Laws.Broken.{Decides, decides_before, decides_none}
use Rattle.model.proofs.Laws.Finds.{finds_zero}
use Rattle.model.proofs.Refused.{stage, image_decides, exactly}
use Rattle.pruning_model.specs.Pruned.{pruned_image}
use Rattle.pruning_model.specs.Calls.{prune_answer, prune}
use Rattle.pruning_model.specs.Rules.{prune_table}

module _ (image out : List ℕ) where
  prune_decides : Decides (prune_answer image out) (length (pruned_image image)) (prune_table image out)
  unfolding prune_answer
  prune_decides = decides_before (image_decides image) (λ kept. stage (finds_zero at_most_iff) (decides_none (length (pruned_image image))))

  pub prune_exactly : Exactly (prune_table image out) (length (pruned_image image)) out (in_numbers (prune image out))
  unfolding prune
  prune_exactly = exactly _ prune_decides
