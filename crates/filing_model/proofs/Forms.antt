-- Two accepted images have the same form exactly when they differ at most in node numbers: the form of an image differs from it at most in these, and is determined by what it is
-- apart from these. So the form of a form is itself.
use Prim.Native.Nat.{ℕ}
use mathlib.Core.Path.{◌≡◌, sym, ◌∙◌, ap}
use mathlib.Core.Logic.{◌↔◌, ◌⊎◌, inl, inr}
use mathlib.Core.Bool.{true}
use mathlib.Core.List.{List}
use lib.ListN.{length}
use Rattle.model.specs.Answers.{Accepted}
use Rattle.model.specs.Image.{AreBytes, design_of}
use Rattle.model.specs.Verdict.{verdict}
use Rattle.model.specs.Trees.{body_of}
use Rattle.model.specs.Rules.{StructureKeeps}
use Rattle.model.proofs.Exact.{verdict_exact}
use Rattle.encoding.specs.Encoding.{image_of}
use Rattle.encoding.proofs.RoundTrip.{design_encodable}
use Rattle.filing_model.specs.Filed.{expression_order, filed, filed_image}
use Rattle.filing_model.specs.Same.{unnumbered_design, DifferAtMostInNumbers}
use Rattle.filing_model.specs.Order.{comes_before}
use Rattle.filing_model.proofs.Trees.{bodies_written}
use Rattle.filing_model.proofs.Listed.{nodes_listed}
use Rattle.filing_model.proofs.Order.{before_total}
use Rattle.filing_model.proofs.Images.{filed_bytes, filed_accepted, filed_same}
use Rattle.filing_model.proofs.Determined.{filed_determined}

structure_kept : (image : List ℕ) → verdict image ≡ Accepted 0 → StructureKeeps (design_of image)
structure_kept image accepted = ((verdict_exact image).0 accepted).design.structure

module _ (image : List ℕ) (bytes : AreBytes image) (accepted : verdict image ≡ Accepted 0) where
  -- its nodes are the bodies written out
  pub form_written : record { commands = (filed (design_of image)).commands; values = (filed (design_of image)).expressions } ≡ bodies_written (body_of (design_of image)) (length (design_of image).states)
  unfolding filed expression_order
  form_written = nodes_listed (design_of image) (structure_kept image accepted) (design_encodable image bytes)

  pub form_differs_in_numbers : DifferAtMostInNumbers (filed_image image) image
  form_differs_in_numbers = filed_same image bytes accepted

pub same_form : (image other : List ℕ) → AreBytes image → AreBytes other → verdict image ≡ Accepted 0 → verdict other ≡ Accepted 0
    → (filed_image image ≡ filed_image other) ↔ DifferAtMostInNumbers image other
unfolding filed_image
same_form image other bytes bytes' accepted accepted' = (
  λ same. sym (form_differs_in_numbers image bytes accepted) ∙ ap (λ (x : List ℕ). unnumbered_design (design_of x)) same ∙ form_differs_in_numbers other bytes' accepted',
  λ differ. ap image_of (filed_determined (design_of image) (design_of other) (structure_kept image accepted) (structure_kept other accepted') (design_encodable image bytes) (design_encodable other bytes') differ),
)

pub form_twice : (image : List ℕ) → AreBytes image → verdict image ≡ Accepted 0 → filed_image (filed_image image) ≡ filed_image image
form_twice image bytes accepted =
    (same_form (filed_image image) image (filed_bytes image bytes accepted) bytes (filed_accepted image bytes accepted) accepted).1 (form_differs_in_numbers image bytes accepted)

-- of two forms one comes before the other, or they are one
pub forms_ordered : (image other : List ℕ) → AreBytes image → AreBytes other → verdict image ≡ Accepted 0 → verdict other ≡ Accepted 0
    → (comes_before (filed_image image) (filed_image other) ≡ true) ⊎ (DifferAtMostInNumbers image other ⊎ (comes_before (filed_image other) (filed_image image) ≡ true))
forms_ordered image other bytes bytes' accepted accepted' = go (before_total (filed_image image) (filed_image other))
  where
    go : (comes_before (filed_image image) (filed_image other) ≡ true) ⊎ ((filed_image image ≡ filed_image other) ⊎ (comes_before (filed_image other) (filed_image image) ≡ true))
        → (comes_before (filed_image image) (filed_image other) ≡ true) ⊎ (DifferAtMostInNumbers image other ⊎ (comes_before (filed_image other) (filed_image image) ≡ true))
    go (inl b) = inl b
    go (inr (inl same)) = inr (inl ((same_form image other bytes bytes' accepted accepted').0 same))
    go (inr (inr b)) = inr (inr b)
