-- The signed operations: the library's integers of 32 bits are those of the definitions.
use Rattle.std.proofs.Common.{◌≡◌, ℕ, zero, suc, ◌-◌, ◌/◌, ◌%◌, ◌^◌, ◌<◌, ◌≤◌, ℤ, pos, negsuc, neg_ℤ, nat_abs, refl, sym, ap, ◌∙◌, div-le_self, arith, to_z, of_z, w32, inl, inr}
use Rattle.std.specs.Int.Signed.{lt_z, quot_z, shr_z}
use Rattle.std.proofs.lemmas.Int.{of_z-to_z, to_z_pos}
use borrow.Author.Tests.{le-ltb}
use Rattle.model.specs.Signed.{signed_value, word_of, below_signed, shifted_right, divided_signed}
use Rattle.model.proofs.Laws.Signed.{signed_low, signed_high, word_pos, word_negsuc, halves, magnitude_low, magnitude_high, divided}

signed_is : (x : ℕ) → x < 2 ^ 32 → to_z w32 x ≡ signed_value x
signed_is x u =
    elim (halves x) [
      | inl l ↦ to_z_pos w32 x l ∙ sym (signed_low x l)
      | inr l ↦
          let distance : 2 ^ 32 - suc x ≡ 2 ^ 32 - 1 - x = omega arith in
          rw (le-ltb x (2 ^ 31) l) (ap negsuc distance) ∙ sym (signed_high x l u)
    ]

magnitude_most : (x : ℕ) → x < 2 ^ 32 → nat_abs (signed_value x) < 2 ^ 32
magnitude_most x u =
    elim (halves x) [
      | inl l ↦ let m = magnitude_low x l in omega arith
      | inr l ↦ let m = magnitude_high x l u in omega arith
    ]

word_is : (z : ℤ) → nat_abs z < 2 ^ 32 → of_z w32 z ≡ word_of z
word_is (pos n) l = sym (word_pos n)
word_is (negsuc n) l =
    let distance : 2 ^ 32 - suc n ≡ 2 ^ 32 - 1 - n = omega arith in
    distance ∙ sym (word_negsuc n (omega arith))

word_few : (z : ℤ) → nat_abs z < 2 ^ 32 → of_z w32 z < 2 ^ 32
word_few (pos n) l = l
word_few (negsuc n) l = let some : 2 ^ 32 - suc n < 2 ^ 32 = omega arith in some

abs_negated : (n : ℕ) → nat_abs (neg_ℤ (pos n)) ≡ n
abs_negated zero = refl
abs_negated (suc n) = refl

quotient_abs : (a b : ℤ) → nat_abs (quot_z a b) ≡ nat_abs a / nat_abs b
quotient_abs (pos a) (pos b) = refl
quotient_abs (pos a) (negsuc b) = abs_negated (a / suc b)
quotient_abs (negsuc a) (pos b) = abs_negated (suc a / b)
quotient_abs (negsuc a) (negsuc b) = refl

quotient_few : (a b : ℤ) → nat_abs a < 2 ^ 32 → nat_abs (quot_z a b) < 2 ^ 32
quotient_few a b l =
    let same = quotient_abs a b in
    let less : nat_abs a / nat_abs b ≤ nat_abs a = div-le_self (nat_abs a) (nat_abs b) in
    omega arith

shifted_few : (z : ℤ) (m : ℕ) → nat_abs z < 2 ^ 32 → nat_abs (shr_z z m) < 2 ^ 32
shifted_few (pos n) m l = let less : n / m ≤ n = div-le_self n m in omega arith
shifted_few (negsuc n) m l = let less : n / m ≤ n = div-le_self n m in omega arith

-- an integer that goes there and back
there_and_back : (z : ℤ) → nat_abs z < 2 ^ 32 → of_z w32 (to_z w32 (of_z w32 z)) ≡ word_of z
there_and_back z l = of_z-to_z w32 (of_z w32 z) (word_few z l) ∙ word_is z l

same_signed : (x : ℕ) → x < 2 ^ 32 → {a : ℤ} → a ≡ to_z w32 x → to_z w32 (of_z w32 a) ≡ signed_value x
same_signed x u p = ap (λ (z : ℤ). to_z w32 (of_z w32 z)) p ∙ ap (to_z w32) (of_z-to_z w32 x u) ∙ signed_is x u

module _ (x y : ℕ) (u : x < 2 ^ 32) {a : ℤ} (p : a ≡ to_z w32 x) where
  pub below_lem : y < 2 ^ 32 → {b : ℤ} → b ≡ to_z w32 y → lt_z (to_z w32 (of_z w32 a)) (to_z w32 (of_z w32 b)) ≡ below_signed x y
  unfolding below_signed
  below_lem v {b} q =
      ap (λ (z : ℤ). lt_z z (to_z w32 (of_z w32 b))) (same_signed x u p) ∙ ap (lt_z (signed_value x)) (same_signed y v q)

  pub shifted_lem : {r : ℕ} → r ≡ of_z w32 (to_z w32 (of_z w32 (shr_z (to_z w32 (of_z w32 a)) (2 ^ (y % 32))))) → r ≡ shifted_right x y
  unfolding shifted_right
  shifted_lem e =
      e
      ∙ ap (λ (z : ℤ). of_z w32 (to_z w32 (of_z w32 (shr_z z (2 ^ (y % 32)))))) (same_signed x u p)
      ∙ there_and_back (shr_z (signed_value x) (2 ^ (y % 32))) (shifted_few (signed_value x) (2 ^ (y % 32)) (magnitude_most x u))

  pub divided_lem : (y ≡ 0 → ⊥) → y < 2 ^ 32 → {b q : ℤ} {r : ℕ} → b ≡ to_z w32 y → q ≡ to_z w32 (of_z w32 (quot_z (to_z w32 (of_z w32 a)) (to_z w32 (of_z w32 b)))) → r ≡ of_z w32 (to_z w32 (of_z w32 q)) → r ≡ divided_signed x y
  divided_lem other v {b} s f e =
      let signs : quot_z (to_z w32 (of_z w32 a)) (to_z w32 (of_z w32 b)) ≡ quot_z (signed_value x) (signed_value y) =
      ap (λ (z : ℤ). quot_z z (to_z w32 (of_z w32 b))) (same_signed x u p) ∙ ap (quot_z (signed_value x)) (same_signed y v s) in
      let few = quotient_few (signed_value x) (signed_value y) (magnitude_most x u) in
      let n = of_z w32 (quot_z (signed_value x) (signed_value y)) in
      let small : n < 2 ^ 32 = word_few (quot_z (signed_value x) (signed_value y)) few in
      e
      ∙ ap (λ (z : ℤ). of_z w32 (to_z w32 (of_z w32 z))) (f ∙ ap (λ (z : ℤ). to_z w32 (of_z w32 z)) signs)
      ∙ ap (λ (k : ℕ). of_z w32 (to_z w32 k)) (of_z-to_z w32 n small)
      ∙ there_and_back (quot_z (signed_value x) (signed_value y)) few
      ∙ sym (divided x y other u v)
