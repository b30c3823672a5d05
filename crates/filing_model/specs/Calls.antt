-- 02, E12: the two calls. Each is one function from everything lent to all that it gives: filing to the answer and every byte of the output area afterwards, refusals included;
-- the comparison, which changes no byte, to what is handed back.
use Rattle.std.specs.Prelude.{ℕ, ◌&&◌, cond, List, leb, length, take}
use Rattle.model.specs.declared.Refusal.TheVariants.{OutputArea}
use Rattle.model.specs.Answers.{Answer, Accepted}
use Rattle.model.specs.Verdict.{◌before◌, refused_at, at_zero_unless, verdict}
use Rattle.model.specs.Raising.{accepts}
use Rattle.encoding.specs.Parts.{over}
use Rattle.filing_model.specs.declared.Earlier.{Earlier}
use Rattle.filing_model.specs.declared.Earlier.TheVariants.{First, Second, Neither}
use Rattle.filing_model.specs.Filed.{filed_image}
use Rattle.filing_model.specs.Order.{comes_before}
use Rattle.model.specs.Calls.{Left, leaves}

module _ (image out : List ℕ) where
  -- "Writing the form into too short an area is 24, after the image checks". Decided: at place 0, and the count is the bytes of the form.
  unfoldable pub file_answer : Answer
  file_answer =
      verdict image
      before refused_at OutputArea (at_zero_unless (leb (length (filed_image image)) (length out)))
      before Accepted (length (filed_image image))

  -- "bytes beyond the form keep their values"
  unfoldable pub file : Left (List ℕ)
  file = leaves file_answer out (over (filed_image image) out)

module _ (first second : List ℕ) where
  -- "Of two lent images the earlier one is handed back ..., the first of them if equal, and an empty part of the first if either is refused."
  unfoldable pub earlier : Earlier
  earlier = cond (accepts (verdict first) && accepts (verdict second)) (cond (comes_before (filed_image second) (filed_image first)) Second First) Neither

  -- "as it was lent": the bytes that are handed back
  abbrev pub handed_back : Earlier → List ℕ
  handed_back First = first
  handed_back Second = second
  handed_back Neither = take 0 first

-- the same of anything that two images have, as where they stand: the empty part begins where the first image does
abbrev pub handed_from : {A : Type 0} → A → A → Earlier → A
handed_from first second First = first
handed_from first second Second = second
handed_from first second Neither = first
