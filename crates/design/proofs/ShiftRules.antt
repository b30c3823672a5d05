-- Shifts: `(1 << n) - 1` is 2 to the power of n less 1, in 64 bits; the `and` with it is the rest modulo that power; and a shift to the right leaves
-- nothing exactly of what is below it.
use Prim.Native.Nat.{ℕ, ◌*◌, ◌-◌, ◌/◌, ◌%◌, ◌^◌, ◌≤◌, ◌<◌}
use mathlib.Core.Path.{◌≡◌, ◌∙◌, ap}
use mathlib.Core.Logic.{◌↔◌}
use native.Mathlib.Omega.{arith}
use native.Mathlib.Nat.{one-mul, div-lt_iff_lt-mul, lt_of_le_of_lt}
use native.Mathlib.Decide.{dec_lt}
use lib.Pow.{pow_pos, shl_exact}
use lib.Bits.{bit_and, and_le_l, and_mask}
use lib.Dec.{ltb, eqb}
use borrow.Author.Tests.{eq-eqb, ne_eqb, lt-ltb, le-ltb}
use mir.Syntax.{w32}
use mir.Val.{Fits}
use Rattle.model.specs.Limits.{width_max}

one_shifted : {n : ℕ} → n < 64 → 1 * 2 ^ n % 18446744073709551616 ≡ 2 ^ n
one_shifted {n} l = shl_exact 1 n 64 (omega arith) (omega arith) ∙ one-mul (2 ^ n)

pub shifted_some : {n : ℕ} → n < 64 → 1 ≤ 1 * 2 ^ n % 18446744073709551616
shifted_some {n} l = rw (one_shifted l) (pow_pos n)

pub shifted_ones : {n : ℕ} → n < 64 → 1 * 2 ^ n % 18446744073709551616 - 1 ≡ 2 ^ n - 1
shifted_ones l = ap (λ (m : ℕ). m - 1) (one_shifted l)

-- a number has no bit at k or above exactly where it is below 2 ^ k
pub shifted_out : (a k : ℕ) → eqb (a / 2 ^ k) 0 ≡ ltb a (2 ^ k)
shifted_out a k = go (dec_lt a (2 ^ k))
  where
    small : (a / 2 ^ k < 1) ↔ (a < 1 * 2 ^ k)
    small = div-lt_iff_lt-mul (pow_pos k)

    go : Dec (a < 2 ^ k) → eqb (a / 2 ^ k) 0 ≡ ltb a (2 ^ k)
    go (yes h) =
        let none = small.1 (rw (one-mul (2 ^ k)) h) in
        rw (eq-eqb (a / 2 ^ k) 0 (omega arith), lt-ltb a (2 ^ k) h)
    go (no h) =
        let some : a / 2 ^ k ≡ 0 → ⊥ = λ e. h (rw (one-mul (2 ^ k)) at (small.0 (omega arith))) in
        rw (ne_eqb (a / 2 ^ k) 0 some, le-ltb a (2 ^ k) (omega arith))

-- ---- widths
module _ {w : ℕ} (l : w ≤ width_max) where
  pub width_some : 1 ≤ 1 * 2 ^ w % 18446744073709551616
  width_some = shifted_some {n = w} (omega arith)

  pub cut_rule : (v : ℕ) → bit_and v (1 * 2 ^ w % 18446744073709551616 - 1) ≡ v % 2 ^ w
  cut_rule v = ap (bit_and v) (shifted_ones {n = w} (omega arith)) ∙ and_mask v w

pub masked_fits : (v m : ℕ) → Fits w32 v → Fits w32 (bit_and v m)
masked_fits v m h = record { fits = lt_of_le_of_lt (and_le_l v m) h.fits }
