-- Shifts and divisions round as 02 says, since a quotient of natural numbers is rounded down: that of two magnitudes, given its sign, is rounded toward zero, and a negative number
-- -(a + 1) is shifted by shifting a; every result but one is within 32 bits.
use Prim.Native.Nat.{ℕ, zero, suc, ◌+◌, ◌-◌, ◌*◌, ◌/◌, ◌^◌, ◌≤◌, ◌<◌}
use mathlib.Core.Path.{◌≡◌, refl, sym, ◌∙◌, ap}
use mathlib.Core.Logic.{◌⊎◌, inl, inr, ◌↔◌}
use mathlib.Core.Bool.{true, false, true≢false, false≢true}
use native.Mathlib.Omega.{arith}
use native.Mathlib.Nat.{div-le_self, div-lt_iff_lt-mul, div-mul-le_self, lt-div-mul-add, suc-mul, le_trans, le_of_lt, lt_of_le_of_lt}
use borrow.Author.Tests.{ltb-true, eqb-true, eqb-false}
use lib.Dec.{ltb, eqb, le→leb, lt→ltb}
use lib.Pow.{pow_pos}
use lib.IntN.{ℤ, pos, negsuc, neg_ℤ, nat_abs, ◌+ℤ◌, ◌*ℤ◌}
use lib.Signed.{mag, non_neg, quot_z, shr_z, mag_shr, ◌<ℤ◌, le_z_yes, lt_z_yes}
use Rattle.model.specs.Rounding.{RoundedDown, RoundedTowardZero}
use Rattle.model.specs.Signed.{signed_value, word_of, shift_count, shifted_right, divided_signed}
use Rattle.model.proofs.Laws.Booleans.{decide, true_or_false}
use Rattle.model.proofs.Laws.Signed.{halves, signed_low, signed_high, signed_of_word, magnitude_some, divided_by_zero, divided}

-- ---- shift
module _ (a m : ℕ) (some : 0 < m) where
  least : a / m * m ≤ a
  least = div-mul-le_self a m

  most : a < a / m * m + m
  most = lt-div-mul-add some

  positive_rounds : RoundedDown (pos a) m (pos (a / m))
  positive_rounds = record { not_above = le_z_yes (le→leb (a / m * m) a least); next_above = lt_z_yes (lt→ltb a (a / m * m + m) most) }

  -- -(a / m + 1) times m is -(before + 1)
  abbrev before : ℕ
  before = a / m * m + m - 1

  product : negsuc (a / m) *ℤ pos m ≡ negsuc before
  product = let next : a / m * m + m ≡ suc before = omega arith in ap (λ (n : ℕ). neg_ℤ (pos n)) (suc-mul (a / m) m ∙ next)

  above : negsuc a <ℤ (negsuc before +ℤ pos m)
  above =
      let fewer = least in
      elim (decide (ltb m (suc before))) [
        | inl h ↦ let l = ltb-true m (suc before) h in lt_z_yes (rw h (lt→ltb (suc before - suc m) a (omega arith)))
        | inr h ↦ lt_z_yes (rw h tt)
      ]

  negative_rounds : RoundedDown (negsuc a) m (negsuc (a / m))
  negative_rounds = let more = most in record { not_above = rw product (le_z_yes (le→leb a before (omega arith))); next_above = rw product above }

pub rounds_down : (z : ℤ) (m : ℕ) → 0 < m → RoundedDown z m (shr_z z m)
rounds_down (pos a) m some = positive_rounds a m some
rounds_down (negsuc a) m some = negative_rounds a m some

-- the integer of a number of 32 bits is within them
mag_signed : (x : ℕ) → x < 2 ^ 32 → mag (signed_value x) < 2 ^ 31
mag_signed x u =
    elim (halves x) [
      | inl l ↦ rw (signed_low x l) l
      | inr l ↦ rw (signed_high x l u) (omega arith)
    ]

pub shift_keeps : (x y : ℕ) → x < 2 ^ 32 → signed_value (shifted_right x y) ≡ shr_z (signed_value x) (2 ^ shift_count y)
unfolding shifted_right
shift_keeps x y u = signed_of_word (shr_z (signed_value x) (2 ^ shift_count y)) (lt_of_le_of_lt (mag_shr (signed_value x) (2 ^ shift_count y)) (mag_signed x u))

pub shift_rounds_down : (x y : ℕ) → x < 2 ^ 32 → RoundedDown (signed_value x) (2 ^ shift_count y) (signed_value (shifted_right x y))
shift_rounds_down x y u = rw (shift_keeps x y u) (rounds_down (signed_value x) (2 ^ shift_count y) (pow_pos (shift_count y)))

-- ---- division
nat_abs_negated : (n : ℕ) → nat_abs (neg_ℤ (pos n)) ≡ n
nat_abs_negated zero = refl
nat_abs_negated (suc n) = refl

nat_abs_quot : (z d : ℤ) → nat_abs (quot_z z d) ≡ nat_abs z / nat_abs d
nat_abs_quot (pos a) (pos b) = refl
nat_abs_quot (pos a) (negsuc b) = nat_abs_negated (a / suc b)
nat_abs_quot (negsuc a) (pos b) = nat_abs_negated (suc a / b)
nat_abs_quot (negsuc a) (negsuc b) = refl

-- a number that is negated is negative, where it is not 0
negated_sign : (n : ℕ) → (neg_ℤ (pos n) ≡ pos 0 → ⊥) → non_neg (neg_ℤ (pos n)) ≡ false
negated_sign zero other = absurd (other refl)
negated_sign (suc n) other = refl

quot_sign : (z d : ℤ) → (quot_z z d ≡ pos 0 → ⊥) → (non_neg (quot_z z d) ≡ true) ↔ (non_neg z ≡ non_neg d)
quot_sign (pos a) (pos b) other = ((λ h. refl), (λ h. refl))
quot_sign (pos a) (negsuc b) other = ((λ h. absurd (true_or_false _ h (negated_sign (a / suc b) other))), (λ h. absurd (true≢false h)))
quot_sign (negsuc a) (pos b) other = ((λ h. absurd (true_or_false _ h (negated_sign (suc a / b) other))), (λ h. absurd (false≢true h)))
quot_sign (negsuc a) (negsuc b) other = ((λ h. refl), (λ h. refl))

pub rounds_toward_zero : (z d : ℤ) → (nat_abs d ≡ 0 → ⊥) → RoundedTowardZero z d (quot_z z d)
rounds_toward_zero z d other =
    let some : 0 < nat_abs d = omega (arith, other) in
    record {
      not_above = rw (nat_abs_quot z d) (div-mul-le_self (nat_abs z) (nat_abs d));
      next_above = rw (nat_abs_quot z d) (lt-div-mul-add some);
      sign = quot_sign z d;
    }

-- the quotient is within 32 bits, but for that of the lowest value by minus one
magnitudes_few : (a b : ℕ) → a ≤ 2 ^ 31 → 0 < b → (a ≡ 2 ^ 31 → b ≡ 1 → ⊥) → a / b < 2 ^ 31
magnitudes_few a b l some other =
    elim (decide (eqb b 1)) [
      | inl h ↦ let less : (a ≡ 2 ^ 31 → ⊥) = (λ e. other e (eqb-true b 1 h)) in lt_of_le_of_lt (div-le_self a b) (omega (arith, less))
      | inr h ↦ (div-lt_iff_lt-mul some).1 (omega (arith, eqb-false b 1 h))
    ]

mag_negated : (n : ℕ) → n ≤ 2 ^ 31 → mag (neg_ℤ (pos n)) < 2 ^ 31
mag_negated zero l = omega arith
mag_negated (suc n) l = l

module _ (x y : ℕ) (u : x < 2 ^ 32) (v : y < 2 ^ 32) (other : x ≡ 2 ^ 31 → y ≡ 2 ^ 32 - 1 → ⊥) where
  mag_halves : (x < 2 ^ 31) ⊎ (2 ^ 31 ≤ x) → (y < 2 ^ 31) ⊎ (2 ^ 31 ≤ y) → mag (quot_z (signed_value x) (signed_value y)) < 2 ^ 31
  mag_halves (inl l) (inl m) = rw (signed_low x l, signed_low y m) (lt_of_le_of_lt (div-le_self x y) l)
  mag_halves (inl l) (inr m) = rw (signed_low x l, signed_high y m v) (mag_negated _ (le_trans (div-le_self x _) (le_of_lt l)))
  mag_halves (inr l) (inl m) = rw (signed_high x l u, signed_low y m) (mag_negated _ (le_trans (div-le_self _ y) (omega arith)))
  mag_halves (inr l) (inr m) = rw (signed_high x l u, signed_high y m v) (magnitudes_few _ _ (omega arith) (omega arith) (λ p q. other (omega arith) (omega arith)))

  module _ (some : y ≡ 0 → ⊥) where
    pub division_keeps : signed_value (divided_signed x y) ≡ quot_z (signed_value x) (signed_value y)
    division_keeps = ap signed_value (divided x y some u v) ∙ signed_of_word (quot_z (signed_value x) (signed_value y)) (mag_halves (halves x) (halves y))

    pub division_rounds_toward_zero : RoundedTowardZero (signed_value x) (signed_value y) (signed_value (divided_signed x y))
    division_rounds_toward_zero = rw division_keeps (rounds_toward_zero (signed_value x) (signed_value y) (magnitude_some y v some))

-- that one is the lowest value again
pub lowest_divided : divided_signed (2 ^ 31) (2 ^ 32 - 1) ≡ 2 ^ 31
unfolding divided_signed signed_value word_of
lowest_divided = refl

pub zero_divisor : (x : ℕ) → divided_signed x 0 ≡ 0
zero_divisor x = sym (divided_by_zero x 0 refl)
