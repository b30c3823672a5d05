-- What is handed back of two accepted images has the lower form, and of two equal forms the first. The order of forms is total, so it is the same form in whichever order they are
-- lent.
use Prim.Native.Nat.{ℕ}
use mathlib.Core.Path.{◌≡◌, sym, ◌∙◌, ap}
use mathlib.Core.Logic.{◌⊎◌, inl, inr, ⊎_elim}
use mathlib.Core.Bool.{true, false, ◌&&◌}
use mathlib.Core.List.{List}
use Rattle.model.specs.Answers.{Accepted}
use Rattle.model.specs.Verdict.{verdict}
use Rattle.model.specs.Raising.{accepts}
use Rattle.model.proofs.Laws.Booleans.{decide}
use Rattle.filing_model.specs.declared.Earlier.TheVariants.{First, Second, Neither}
use Rattle.filing_model.specs.Filed.{filed_image}
use Rattle.filing_model.specs.Order.{comes_before}
use Rattle.filing_model.specs.Calls.{earlier, handed_back}
use Rattle.filing_model.proofs.Order.{before_irreflexive, before_once, before_total}

module _ (first second : List ℕ) where
  pub earlier_refused : (accepts (verdict first) && accepts (verdict second)) ≡ false → earlier first second ≡ Neither
  unfolding earlier
  earlier_refused refused = rw refused

  module _ (accepted : verdict first ≡ Accepted 0) (accepted' : verdict second ≡ Accepted 0) where
    -- the second where it comes before the first, else the first
    pub earlier_second : comes_before (filed_image second) (filed_image first) ≡ true → earlier first second ≡ Second
    unfolding earlier
    earlier_second b = rw (accepted, accepted', b)

    pub earlier_not_second : comes_before (filed_image second) (filed_image first) ≡ false → earlier first second ≡ First
    unfolding earlier
    earlier_not_second b = rw (accepted, accepted', b)

    -- "the first of them if equal"
    pub earlier_first : filed_image first ≡ filed_image second → earlier first second ≡ First
    earlier_first same = earlier_not_second (ap (comes_before (filed_image second)) same ∙ before_irreflexive (filed_image second))

    -- the form of what is handed back
    abbrev form : List ℕ
    form = filed_image (handed_back first second (earlier first second))

    -- no lent image comes before it
    pub earlier_least : (comes_before (filed_image first) form ≡ false) × (comes_before (filed_image second) form ≡ false)
    earlier_least =
        ⊎_elim
        (λ (b : comes_before (filed_image second) (filed_image first) ≡ true). rw (earlier_second b) (before_once (filed_image second) (filed_image first) b, before_irreflexive (filed_image second)))
        (λ (b : comes_before (filed_image second) (filed_image first) ≡ false). rw (earlier_not_second b) (before_irreflexive (filed_image first), b))
        (decide (comes_before (filed_image second) (filed_image first)))

-- the order in which they are lent does not matter to the form
module _ (first second : List ℕ) (accepted : verdict first ≡ Accepted 0) (accepted' : verdict second ≡ Accepted 0) where
  pub earlier_swapped : filed_image (handed_back first second (earlier first second)) ≡ filed_image (handed_back second first (earlier second first))
  earlier_swapped = go (before_total (filed_image first) (filed_image second))
    where
      go : (comes_before (filed_image first) (filed_image second) ≡ true) ⊎ ((filed_image first ≡ filed_image second) ⊎ (comes_before (filed_image second) (filed_image first) ≡ true))
          → filed_image (handed_back first second (earlier first second)) ≡ filed_image (handed_back second first (earlier second first))
      go (inl b) = rw (earlier_not_second first second accepted accepted' (before_once (filed_image first) (filed_image second) b), earlier_second second first accepted' accepted b)
      go (inr (inl same)) = rw (earlier_first first second accepted accepted' same, earlier_first second first accepted' accepted (sym same)) same
      go (inr (inr b)) = rw (earlier_second first second accepted accepted' b, earlier_not_second second first accepted' accepted (before_once (filed_image second) (filed_image first) b))
