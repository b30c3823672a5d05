-- The call from the point where the image is accepted on.
use Rattle.std.specs.Prelude.{ℕ, List, leb, length}
use Rattle.model.specs.declared.Refusal.TheVariants.{OutputArea}
use Rattle.model.specs.Answers.{Accepted}
use Rattle.model.specs.Verdict.{◌before◌, refused_at, at_zero_unless}
use Rattle.encoding.specs.Parts.{over}
use Rattle.pruning_model.specs.Pruned.{pruned_image}
use Rattle.model.specs.Calls.{Left, leaves}

unfoldable pub prune_on : List ℕ → List ℕ → Left (List ℕ)
prune_on image out =
    leaves
    (refused_at OutputArea (at_zero_unless (leb (length (pruned_image image)) (length out))) before Accepted (length (pruned_image image)))
    out
    (over (pruned_image image) out)
