-- What the call leaves in the output area: where it is accepted the result over its beginning, and in any case behind it what was there.
use Rattle.std.specs.Prelude.{Err}
use Prim.Native.Nat.{ℕ, ◌≤◌}
use mathlib.Core.Path.{◌≡◌, refl, ◌∙◌, ap}
use mathlib.Core.List.{List}
use lib.ListN.{length, take, drop}
use lib.Seq.{take-append_seam}
use Rattle.model.specs.Image.{byte_at}
use Rattle.model.specs.Answers.{Answer, Accepted, numbers_of}
use Rattle.model.specs.Calls.{leaves}
use Rattle.model.proofs.Laws.Left.{left_made}
use Rattle.encoding.specs.Parts.{over}
use Rattle.encoding.proofs.PartRules.{beyond_over}
use Rattle.pruning_model.specs.Pruned.{pruned_image}
use Rattle.pruning_model.specs.Calls.{prune_answer, prune}

module _ (image out : List ℕ) where
  -- the result stands at the beginning
  pub prune_writes : (numbers_of (prune image out).answer).number ≡ 0 → take (length (pruned_image image)) (prune image out).lent ≡ pruned_image image
  unfolding prune over
  prune_writes accepted =
      ap (take (length (pruned_image image))) (left_made (prune_answer image out) out _ accepted)
      ∙ take-append_seam (pruned_image image) (drop (length (pruned_image image)) out)

  -- "output bytes beyond the result keep their values", accepted or refused
  pub beyond_keeps : (i : ℕ) → length (pruned_image image) ≤ i → byte_at (prune image out).lent i ≡ byte_at out i
  unfolding prune
  beyond_keeps i behind = go (prune_answer image out)
    where
      go : (a : Answer) → byte_at (leaves a out (over (pruned_image image) out)).lent i ≡ byte_at out i
      go (Accepted n) = beyond_over (pruned_image image) out i behind
      go (Err why) = refl
