-- The call that files, from the point where the image is accepted on.
use Rattle.std.specs.Prelude.{ℕ, List, leb, length}
use Rattle.model.specs.declared.Refusal.TheVariants.{OutputArea}
use Rattle.model.specs.Answers.{Accepted}
use Rattle.model.specs.Verdict.{◌before◌, refused_at, at_zero_unless}
use Rattle.encoding.specs.Parts.{over}
use Rattle.filing_model.specs.Filed.{filed_image}
use Rattle.model.specs.Calls.{Left, leaves}

unfoldable pub file_on : List ℕ → List ℕ → Left (List ℕ)
file_on image out =
    leaves
    (refused_at OutputArea (at_zero_unless (leb (length (filed_image image)) (length out))) before Accepted (length (filed_image image)))
    out
    (over (filed_image image) out)
