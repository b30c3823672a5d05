-- Two forms are compared as far as both go: the first byte in which they differ decides, and where none does the forms' lengths, which are those of the images.
use Prim.Native.Nat.{ℕ, ◌+◌, ◌≤◌, ◌<◌}
use mathlib.Core.Path.{◌≡◌, sym, ◌∙◌, ap₂}
use mathlib.Core.Bool.{true, false}
use mathlib.Core.List.{List}
use native.Mathlib.Omega.{arith}
use native.Mathlib.Decide.{dec_lt}
use lib.Dec.{ltb}
use lib.ListN.{length}
use Rattle.model.specs.Image.{byte_at}
use Rattle.model.specs.Rules.{Keeps}
use Rattle.filing_model.specs.Filed.{filed_image}
use Rattle.filing_model.specs.Order.{comes_before}
use Rattle.filing_model.proofs.Order.{Alike, alike_none, alike_next, alike_lower, alike_higher, alike_first_ends, alike_second_ends}
use Rattle.filing.proofs.WritingRules.{form_long}

-- the first i bytes of both forms are equal
pub record FormsAlike (first second : List ℕ) (i : ℕ) : Type 0 where
  pub alike : Alike i (filed_image second) (filed_image first)
  pub first_long : length (filed_image first) ≡ length first
  pub second_long : length (filed_image second) ≡ length second

pub forms_begin : {first second : List ℕ} → Keeps first → Keeps second → FormsAlike first second 0
forms_begin {first} {second} keeps keeps' =
    record {
      alike = alike_none (filed_image second) (filed_image first);
      first_long = form_long keeps;
      second_long = form_long keeps';
    }

-- ---- both forms go on
module _ {first second : List ℕ} {i : ℕ} (alike : FormsAlike first second i) (l : i < length first) (k : i < length second) where
  module _ {one other : ℕ} (is : one ≡ byte_at (filed_image first) i) (is' : other ≡ byte_at (filed_image second) i) where
    inside : i < length (filed_image first)
    inside = omega (arith, alike.first_long)

    inside' : i < length (filed_image second)
    inside' = omega (arith, alike.second_long)

    pub second_lower : other < one → true ≡ comes_before (filed_image second) (filed_image first)
    second_lower h = sym (alike_lower alike.alike inside' inside (omega arith))

    pub first_lower : one < other → false ≡ comes_before (filed_image second) (filed_image first)
    first_lower h = sym (alike_higher alike.alike inside' inside (omega arith))

    pub forms_next : one ≤ other → other ≤ one → FormsAlike first second (i + 1)
    forms_next h h' =
        record { alike = alike_next alike.alike inside' inside (omega arith); first_long = alike.first_long; second_long = alike.second_long }

-- ---- one of them ends
module _ {first second : List ℕ} {i : ℕ} (alike : FormsAlike first second i) where
  lengths_decide : (i < length first → i < length second → ⊥) → comes_before (filed_image second) (filed_image first) ≡ ltb (length (filed_image second)) (length (filed_image first))
  lengths_decide ends = go (dec_lt i (length first)) (dec_lt i (length second))
    where
      go : Dec (i < length first) → Dec (i < length second) → comes_before (filed_image second) (filed_image first) ≡ ltb (length (filed_image second)) (length (filed_image first))
      go (yes l) (yes k) = absurd (ends l k)
      go (yes l) (no k) = alike_first_ends alike.alike (omega (arith, alike.second_long, alike.alike.first_inside))
      go (no l) k = alike_second_ends alike.alike (omega (arith, alike.first_long, alike.alike.second_inside))

  pub forms_end : (i < length first → i < length second → ⊥) → ltb (length second) (length first) ≡ comes_before (filed_image second) (filed_image first)
  forms_end ends = sym (lengths_decide ends ∙ ap₂ ltb alike.second_long alike.first_long)
