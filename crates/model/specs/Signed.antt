-- 02, E3: "signed less, arithmetic right shift and signed division, on 32-bit two's complement": each by what it means on integers, brought back to 32 bits.
-- Integers and their operations are the library's: lt_z (less), shr_z (division by a natural number, rounded down) and quot_z (division rounded toward zero).
use Rattle.std.specs.Prelude.{ℕ, ◌/◌, ◌%◌, ◌^◌, Bool, cond, ltb, eqb, ℤ, pos, nat_abs, ◌+ℤ◌, ◌-ℤ◌}
use Rattle.std.specs.Int.Signed.{lt_z, non_neg, quot_z, shr_z}
use Rattle.model.specs.Limits.{value_count}

-- "32-bit two's complement": a number of the lower half of the values stands for itself, one of the upper half for itself less 2 to the power of 32
unfoldable pub signed_value : ℕ → ℤ
signed_value x = cond (ltb x (value_count / 2)) (pos x) (pos x -ℤ pos value_count)

-- the 32 bits of an integer: itself, or where it is below 0 its sum with 2 to the power of 32
unfoldable pub word_of : ℤ → ℕ
word_of z = nat_abs (cond (non_neg z) z (z +ℤ pos value_count))

-- "signed less"
unfoldable pub below_signed : ℕ → ℕ → Bool
below_signed x y = lt_z (signed_value x) (signed_value y)

-- "The shift count is the second part's low five bits."
abbrev pub shift_count : ℕ → ℕ
shift_count y = y % 2 ^ 5

-- "arithmetic right shift": division by 2 to the power of the count, rounded down
unfoldable pub shifted_right : ℕ → ℕ → ℕ
shifted_right x y = word_of (shr_z (signed_value x) (2 ^ shift_count y))

-- "Division rounds toward zero; a zero divisor gives 0; the lowest value divided by minus one gives the lowest value again": the quotient is then 2 to the power of 31, and its bits are those of the lowest value.
unfoldable pub divided_signed : ℕ → ℕ → ℕ
divided_signed x y = cond (eqb y 0) 0 (word_of (quot_z (signed_value x) (signed_value y)))
