-- What the call leaves in the output area: where it is accepted the form over its beginning, and in any case behind it what was there.
use Rattle.std.specs.Prelude.{Err}
use Prim.Native.Nat.{ℕ, ◌≤◌}
use mathlib.Core.Path.{◌≡◌, refl, ◌∙◌, ap}
use mathlib.Core.List.{List}
use lib.ListN.{length, take, drop}
use lib.Seq.{take-append_seam}
use Rattle.model.specs.Image.{byte_at}
use Rattle.model.specs.Answers.{Answer, Accepted, numbers_of}
use Rattle.model.specs.Calls.{leaves}
use Rattle.model.proofs.Laws.Left.{left_made}
use Rattle.encoding.specs.Parts.{over}
use Rattle.encoding.proofs.PartRules.{beyond_over}
use Rattle.filing_model.specs.Filed.{filed_image}
use Rattle.filing_model.specs.Calls.{file_answer, file}

module _ (image out : List ℕ) where
  -- the form stands at the beginning
  pub file_writes : (numbers_of (file image out).answer).number ≡ 0 → take (length (filed_image image)) (file image out).lent ≡ filed_image image
  unfolding file over
  file_writes accepted =
      ap (take (length (filed_image image))) (left_made (file_answer image out) out _ accepted)
      ∙ take-append_seam (filed_image image) (drop (length (filed_image image)) out)

  -- "bytes beyond the form keep their values", accepted or refused
  pub beyond_keeps : (i : ℕ) → length (filed_image image) ≤ i → byte_at (file image out).lent i ≡ byte_at out i
  unfolding file
  beyond_keeps i behind = go (file_answer image out)
    where
      go : (a : Answer) → byte_at (leaves a out (over (filed_image image) out)).lent i ≡ byte_at out i
      go (Accepted n) = beyond_over (filed_image image) out i behind
      go (Err why) = refl
