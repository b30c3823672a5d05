-- The calls from each point on: what has been found, before what follows; and of two images neither where one is refused, else the second only where its form comes before the first's.
use Prim.Native.Nat.{ℕ}
use Rattle.std.specs.Prelude.{Err}
use mathlib.Core.Path.{◌≡◌, sym, ◌∙◌}
use mathlib.Core.Bool.{Bool, true, false, not}
use mathlib.Core.List.{List}
use Rattle.model.specs.declared.RefusedAt.{RefusedAt}
use Rattle.model.specs.Answers.{Answer, Accepted}
use Rattle.model.specs.Rules.{Keeps}
use Rattle.model.specs.Verdict.{◌before◌, verdict}
use Rattle.model.specs.Raising.{accepts}
use Rattle.model.proofs.Exact.{verdict_exact}
use Rattle.model.proofs.Laws.Booleans.{not_true, not_false}
use Rattle.model.proofs.Raising.Theorem.{accepts_exact}
use Rattle.filing_model.specs.declared.Earlier.TheVariants.{First, Second, Neither}
use Rattle.filing_model.specs.Filed.{filed_image}
use Rattle.filing_model.specs.Order.{comes_before}
use Rattle.filing_model.specs.Calls.{file_answer, file, earlier}
use Rattle.filing_model.proofs.Earliest.{earlier_refused, earlier_second, earlier_not_second}
use Rattle.filing.specs.Stages.{file_on}
use Rattle.model.specs.Calls.{left_as, Left}

-- ---- the verdict, and all that follows
module _ (image : List ℕ) {a : Answer} (is : a ≡ verdict image) where
  pub verdict_refuses : {why : RefusedAt} (out : List ℕ) → a ≡ Err why → left_as (Err why) out ≡ file image out
  unfolding file file_answer ◌before◌
  verdict_refuses out h = rw (← is, h)

  pub verdict_passes : {left : Left (List ℕ)} {n : ℕ} (out : List ℕ) → a ≡ Accepted n → left ≡ file_on image out → left ≡ file image out
  unfolding file file_answer file_on ◌before◌
  verdict_passes out h k = rw (← is, h) k

-- ---- which of two is the earlier
pub accepts_keeps : {image : List ℕ} {w : Bool} → not w ≡ false → w ≡ accepts (verdict image) → Keeps image
accepts_keeps {image} {w} h e = (accepts_exact image).0 (sym e ∙ not_false w h)

module _ (first second : List ℕ) where
  pub first_refused : {w : Bool} → not w ≡ true → w ≡ accepts (verdict first) → Neither ≡ earlier first second
  first_refused {w} h e = sym (earlier_refused first second (rw (← e, not_true w h)))

  pub second_refused : {w v : Bool} → not w ≡ false → w ≡ accepts (verdict first) → not v ≡ true → v ≡ accepts (verdict second) → Neither ≡ earlier first second
  second_refused {w} {v} h e k f = sym (earlier_refused first second (rw (← e, not_false w h, ← f, not_true v k)))

  module _ {b : Bool} (is : b ≡ comes_before (filed_image second) (filed_image first)) (keeps : Keeps first) (keeps' : Keeps second) where
    pub second_comes : b ≡ true → Second ≡ earlier first second
    second_comes h = sym (earlier_second first second ((verdict_exact first).1 keeps) ((verdict_exact second).1 keeps') (sym is ∙ h))

    pub first_comes : b ≡ false → First ≡ earlier first second
    first_comes h = sym (earlier_not_second first second ((verdict_exact first).1 keeps) ((verdict_exact second).1 keeps') (sym is ∙ h))
