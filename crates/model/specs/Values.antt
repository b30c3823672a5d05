-- 01, 'A cycle': "Values are 32 bits; adding and subtracting wrap." The signed operations are those of 02, E3. The values that fit a register (02, E2). And the bytes of a register area.
use Rattle.std.specs.Prelude.{ℕ, ◌+◌, ◌-◌, ◌/◌, ◌%◌, ◌^◌, Bool, cond, List, [], ◌∷◌, ltb, eqb, get_or}
use Rattle.std.specs.Int.Bits.{bit_and, bit_or, bit_xor}
use Rattle.model.specs.Limits.{value_count, word_length}
use Rattle.model.specs.Image.{Register, no_register, word32_at, records_of}
use Rattle.model.specs.Kinds.{Operation, add, subtract, bitwise_and, bitwise_or, bitwise_xor, equal, less, signed_less, arithmetic_shift, signed_division}
use Rattle.model.specs.Signed.{below_signed, shifted_right, divided_signed}

-- "Equal and less (unsigned) give 1 or 0."
abbrev pub one_or_zero : Bool → ℕ
one_or_zero test = cond test 1 0

unfoldable pub apply : Operation → ℕ → ℕ → ℕ
apply add x y = (x + y) % value_count
apply subtract x y = (x + (value_count - y)) % value_count
apply bitwise_and x y = bit_and x y
apply bitwise_or x y = bit_or x y
apply bitwise_xor x y = bit_xor x y
apply equal x y = one_or_zero (eqb x y)
apply less x y = one_or_zero (ltb x y)
apply signed_less x y = one_or_zero (below_signed x y)
apply arithmetic_shift x y = shifted_right x y
apply signed_division x y = divided_signed x y

-- 02, E2: "2 to the power of the width" of register r. A value fits the register where it is below this.
module _ (registers : List Register) (r : ℕ) where
  abbrev pub modulus : ℕ
  modulus = 2 ^ (get_or registers r no_register).width

  abbrev pub fits : ℕ → Bool
  fits value = ltb value modulus

  -- 02, E2: "An assignment stores the value modulo 2 to the power of the width."
  abbrev pub stored : ℕ → ℕ
  stored value = value % modulus

-- "registers, 4 bytes each": the first n values of a register area
unfoldable pub words_of : ℕ → List ℕ → List ℕ
words_of n bytes = records_of (λ rest. word32_at rest 0) word_length n bytes

-- the bytes of values, little-endian
unfoldable pub bytes_of : List ℕ → List ℕ
bytes_of [] = []
bytes_of (v ∷ vs) = v % 256 ∷ v / 256 % 256 ∷ v / 65536 % 256 ∷ v / 16777216 % 256 ∷ bytes_of vs
