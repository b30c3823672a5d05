-- 02, E11: the call. One function from everything lent to the answer and every byte of the output area afterwards, refusals included.
use Rattle.std.specs.Prelude.{ℕ, List, leb, length}
use Rattle.model.specs.declared.Refusal.TheVariants.{OutputArea}
use Rattle.model.specs.Answers.{Answer, Accepted}
use Rattle.model.specs.Verdict.{◌before◌, refused_at, at_zero_unless, verdict}
use Rattle.encoding.specs.Parts.{over}
use Rattle.pruning_model.specs.Pruned.{pruned_image}
use Rattle.model.specs.Calls.{Left, leaves}

module _ (image out : List ℕ) where
  -- "It refuses with 24, after the image checks, an output area shorter than the result." Decided: at place 0, and the count is the bytes of the result.
  unfoldable pub prune_answer : Answer
  prune_answer =
      verdict image
      before refused_at OutputArea (at_zero_unless (leb (length (pruned_image image)) (length out)))
      before Accepted (length (pruned_image image))

  -- "Write the image with only these", and "output bytes beyond the result keep their values"
  unfoldable pub prune : Left (List ℕ)
  prune = leaves prune_answer out (over (pruned_image image) out)
