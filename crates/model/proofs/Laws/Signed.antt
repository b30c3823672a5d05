-- Laws of signed numbers. A number of the upper half is negsuc of its distance from the greatest one, so each operation on integers comes to one on natural numbers by the signs of its parts.
use Prim.Native.Nat.{ℕ, zero, suc, ◌+◌, ◌-◌, ◌/◌, ◌%◌, ◌^◌, ◌≤◌, ◌<◌}
use mathlib.Core.Path.{◌≡◌, refl, sym, ◌∙◌, ap}
use mathlib.Core.Logic.{◌⊎◌, inl, inr}
use native.Mathlib.Omega.{arith}
use native.Mathlib.Nat.{div-le_self}
use borrow.Author.Tests.{ltb-true, ltb-false, lt-ltb, le-ltb, eq-eqb, ne_eqb}
use lib.Dec.{ltb}
use lib.IntN.{ℤ, pos, negsuc, neg_ℤ, nat_abs}
use lib.Signed.{mag, quot_z}
use Rattle.model.specs.Signed.{signed_value, word_of, below_signed, shifted_right, divided_signed}
use Rattle.model.proofs.Laws.Booleans.{decide}

-- ---- the integer of a number, and the number of an integer
pub signed_low : (x : ℕ) → x < 2 ^ 31 → signed_value x ≡ pos x
unfolding signed_value
signed_low x l = rw (lt-ltb x (2 ^ 31) l)

pub signed_high : (x : ℕ) → 2 ^ 31 ≤ x → x < 2 ^ 32 → signed_value x ≡ negsuc (2 ^ 32 - 1 - x)
unfolding signed_value
signed_high x l u =
    let distance : 2 ^ 32 - suc x ≡ 2 ^ 32 - 1 - x = omega arith in
    rw (le-ltb x (2 ^ 31) l, lt-ltb x (2 ^ 32) u) (ap negsuc distance)

pub word_pos : (n : ℕ) → word_of (pos n) ≡ n
unfolding word_of
word_pos n = refl

pub word_negsuc : (n : ℕ) → n < 2 ^ 32 → word_of (negsuc n) ≡ 2 ^ 32 - 1 - n
unfolding word_of
word_negsuc n l =
    let distance : 2 ^ 32 - suc n ≡ 2 ^ 32 - 1 - n = omega arith in
    rw (le-ltb (2 ^ 32) (suc n) (omega arith)) distance

pub word_negated : (n : ℕ) → n < 2 ^ 32 → word_of (neg_ℤ (pos n)) ≡ (2 ^ 32 - n) % 2 ^ 32
unfolding word_of
word_negated zero l = refl
word_negated (suc n) l = word_negsuc n (omega arith) ∙ omega arith

-- a number of either half
pub halves : (x : ℕ) → (x < 2 ^ 31) ⊎ (2 ^ 31 ≤ x)
halves x = elim (decide (ltb x (2 ^ 31))) [ inl h ↦ inl (ltb-true x (2 ^ 31) h) | inr h ↦ inr (ltb-false x (2 ^ 31) h) ]

-- A number's integer has its 32 bits, and an integer from -2^31 to 2^31 - 1 is that of its 32 bits.
pub word_of_signed : (x : ℕ) → x < 2 ^ 32 → word_of (signed_value x) ≡ x
word_of_signed x u =
    elim (halves x) [
      | inl l ↦ ap word_of (signed_low x l) ∙ word_pos x
      | inr l ↦ ap word_of (signed_high x l u) ∙ word_negsuc (2 ^ 32 - 1 - x) (omega arith) ∙ omega arith
    ]

pub signed_of_word : (z : ℤ) → mag z < 2 ^ 31 → signed_value (word_of z) ≡ z
signed_of_word (pos n) l = ap signed_value (word_pos n) ∙ signed_low n l
signed_of_word (negsuc n) l =
    let back : 2 ^ 32 - 1 - (2 ^ 32 - 1 - n) ≡ n = omega arith in
    ap signed_value (word_negsuc n (omega arith)) ∙ signed_high (2 ^ 32 - 1 - n) (omega arith) (omega arith) ∙ ap negsuc back

-- ---- less
same_order : (a b c d : ℕ) → (c < d → a < b) → (d ≤ c → b ≤ a) → ltb a b ≡ ltb c d
same_order a b c d f g =
    elim (decide (ltb c d)) [
      | inl h ↦ lt-ltb a b (f (ltb-true c d h)) ∙ sym h
      | inr h ↦ le-ltb a b (g (ltb-false c d h)) ∙ sym h
    ]

-- numbers moved on by half of the values are in the order of their integers
module _ (x y : ℕ) (u : x < 2 ^ 32) (v : y < 2 ^ 32) {a b : ℕ} (p : a ≡ (x + 2 ^ 31) % 2 ^ 32) (q : b ≡ (y + 2 ^ 31) % 2 ^ 32) where
  below_halves : (x < 2 ^ 31) ⊎ (2 ^ 31 ≤ x) → (y < 2 ^ 31) ⊎ (2 ^ 31 ≤ y) → ltb a b ≡ below_signed x y
  unfolding below_signed
  below_halves (inl l) (inl m) = rw (signed_low x l, signed_low y m) (same_order a b x y (λ h. omega arith) (λ h. omega arith))
  below_halves (inl l) (inr m) = rw (signed_low x l, signed_high y m v) (le-ltb a b (omega arith))
  below_halves (inr l) (inl m) = rw (signed_high x l u, signed_low y m) (lt-ltb a b (omega arith))
  below_halves (inr l) (inr m) = rw (signed_high x l u, signed_high y m v) (same_order a b (2 ^ 32 - 1 - y) (2 ^ 32 - 1 - x) (λ h. omega arith) (λ h. omega arith))

  pub below_signed_lem : ltb a b ≡ below_signed x y
  below_signed_lem = below_halves (halves x) (halves y)

-- ---- shift
pub shifted_low : (x y : ℕ) → x < 2 ^ 31 → x / 2 ^ (y % 32) ≡ shifted_right x y
unfolding shifted_right
shifted_low x y l = rw (signed_low x l) (sym (word_pos (x / 2 ^ (y % 32))))

pub shifted_high : (x y : ℕ) → 2 ^ 31 ≤ x → x < 2 ^ 32 → 2 ^ 32 - 1 - (2 ^ 32 - 1 - x) / 2 ^ (y % 32) ≡ shifted_right x y
unfolding shifted_right
shifted_high x y l u =
    let n = 2 ^ 32 - 1 - x in
    let m = 2 ^ (y % 32) in
    let less : n / m ≤ n = div-le_self n m in
    rw (signed_high x l u) (sym (word_negsuc (n / m) (omega arith)))

-- ---- division
pub magnitude_low : (x : ℕ) → x < 2 ^ 31 → x ≡ nat_abs (signed_value x)
magnitude_low x l = rw (signed_low x l)

pub magnitude_high : (x : ℕ) → 2 ^ 31 ≤ x → x < 2 ^ 32 → (2 ^ 32 - x) % 2 ^ 32 ≡ nat_abs (signed_value x)
magnitude_high x l u =
    let distance : (2 ^ 32 - x) % 2 ^ 32 ≡ suc (2 ^ 32 - 1 - x) = omega arith in
    distance ∙ ap nat_abs (sym (signed_high x l u))

-- none but 0 has magnitude 0
pub magnitude_some : (x : ℕ) → x < 2 ^ 32 → (x ≡ 0 → ⊥) → nat_abs (signed_value x) ≡ 0 → ⊥
magnitude_some x u other z =
    elim (halves x) [
      | inl l ↦ other (magnitude_low x l ∙ z)
      | inr l ↦ let m = magnitude_high x l u ∙ z in omega arith
    ]

magnitude_most : (x : ℕ) → x < 2 ^ 32 → nat_abs (signed_value x) < 2 ^ 32
magnitude_most x u =
    elim (halves x) [
      | inl l ↦ let m = magnitude_low x l in omega arith
      | inr l ↦ let m = magnitude_high x l u in omega arith
    ]

pub divided_by_zero : (x y : ℕ) → y ≡ 0 → 0 ≡ divided_signed x y
unfolding divided_signed
divided_by_zero x y e = rw (eq-eqb y 0 e)

-- Where the signs are the same the quotient is that of the magnitudes, and where they are not it is negated.
module _ (x y : ℕ) (other : y ≡ 0 → ⊥) (u : x < 2 ^ 32) (v : y < 2 ^ 32) where
  abbrev magnitudes : ℕ
  magnitudes = nat_abs (signed_value x) / nat_abs (signed_value y)

  few : magnitudes < 2 ^ 32
  few =
      let less : magnitudes ≤ nat_abs (signed_value x) = div-le_self (nat_abs (signed_value x)) (nat_abs (signed_value y)) in
      let most = magnitude_most x u in
      omega arith

  pub divided : divided_signed x y ≡ word_of (quot_z (signed_value x) (signed_value y))
  unfolding divided_signed
  divided = rw (ne_eqb y 0 other)

  pub divided_low_low : x < 2 ^ 31 → y < 2 ^ 31 → magnitudes ≡ divided_signed x y
  divided_low_low l m = rw (divided, signed_low x l, signed_low y m) (sym (word_pos (x / y)))

  pub divided_low_high : x < 2 ^ 31 → 2 ^ 31 ≤ y → (2 ^ 32 - magnitudes) % 2 ^ 32 ≡ divided_signed x y
  divided_low_high l m = let less = few in rw (divided, signed_low x l, signed_high y m v) (sym (word_negated _ (rw (signed_low x l, signed_high y m v) at less)))

  pub divided_high_low : 2 ^ 31 ≤ x → y < 2 ^ 31 → (2 ^ 32 - magnitudes) % 2 ^ 32 ≡ divided_signed x y
  divided_high_low l m = let less = few in rw (divided, signed_high x l u, signed_low y m) (sym (word_negated _ (rw (signed_high x l u, signed_low y m) at less)))

  pub divided_high_high : 2 ^ 31 ≤ x → 2 ^ 31 ≤ y → magnitudes ≡ divided_signed x y
  divided_high_high l m = rw (divided, signed_high x l u, signed_high y m v) (sym (word_pos _))
