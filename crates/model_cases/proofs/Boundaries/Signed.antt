-- Cases at the boundaries of 02, E3: numbers of 32 bits as integers, signed less, arithmetic right shift, signed division. 4294967295 is -1, 2147483648 the lowest value.
use Prim.Native.Nat.{ℕ, ◌+◌}
use mathlib.Core.Path.{◌≡◌, refl}
use mathlib.Core.List.{List, [], ◌∷◌, ◌++◌, map}
use lib.IntN.{pos, negsuc}
use lib.ListN.{replicate}
use Rattle.model.specs.Kinds.{Operation, signed_less, arithmetic_shift, signed_division}
use Rattle.model.specs.Signed.{signed_value, word_of}
use Rattle.model.specs.Values.{apply}
use Rattle.model.specs.Listing.{bytes_of_text, listing}
use Rattle.model.proofs.Opened.{everything}
use Rattle.model.proofs.Designs.{one_state, node, register_record, assigns, sequences, goes_to, reads}

-- an operation on several pairs of values
abbrev values : Operation → List (ℕ × ℕ) → List ℕ
values o pairs = map (λ (p : ℕ × ℕ). apply o p.0 p.1) pairs

-- "on 32-bit two's complement": the last number of the lower half, the first and the last of the upper one; negsuc n is -(n + 1)
shows_integers
    : map signed_value (0 ∷ 1 ∷ 2147483647 ∷ 2147483648 ∷ 4294967256 ∷ 4294967295 ∷ [])
    ≡ pos 0 ∷ pos 1 ∷ pos 2147483647 ∷ negsuc 2147483647 ∷ negsuc 39 ∷ negsuc 0 ∷ []
shows_integers = unfold everything in refl

shows_words
    : map word_of (pos 0 ∷ pos 2147483647 ∷ pos 2147483648 ∷ negsuc 2147483647 ∷ negsuc 39 ∷ negsuc 0 ∷ [])
    ≡ 0 ∷ 2147483647 ∷ 2147483648 ∷ 2147483648 ∷ 4294967256 ∷ 4294967295 ∷ []
shows_words = unfold everything in refl

-- "signed less": -1 < 0, not 0 < -1, not -1 < -1; -2 < -1, not -1 < -2; 0 < 1, not 1 < 0, not 1 < 1
shows_signed_less
    : values
    signed_less
    ((4294967295, 0) ∷ (0, 4294967295) ∷ (4294967295, 4294967295) ∷ (4294967294, 4294967295) ∷ (4294967295, 4294967294) ∷ (0, 1) ∷ (1, 0) ∷ (1, 1) ∷ [])
    ≡ 1 ∷ 0 ∷ 0 ∷ 1 ∷ 0 ∷ 1 ∷ 0 ∷ 0 ∷ []
shows_signed_less = unfold everything in refl

-- the greatest value is not below the lowest, the lowest is below all others
shows_signed_less_ends
    : values signed_less ((2147483647, 2147483648) ∷ (2147483648, 2147483647) ∷ (2147483648, 2147483649) ∷ (2147483648, 2147483648) ∷ [])
    ≡ 0 ∷ 1 ∷ 1 ∷ 0 ∷ []
shows_signed_less_ends = unfold everything in refl

-- "arithmetic right shift": of the lowest value by 31; -1 by 5; -7 by 1 is -4, rounded down; 7 by 1, 5 by 0, the greatest value by 30
shows_shift
    : values arithmetic_shift ((2147483648, 31) ∷ (4294967295, 5) ∷ (4294967289, 1) ∷ (7, 1) ∷ (5, 0) ∷ (2147483647, 30) ∷ (2147483648, 1) ∷ [])
    ≡ 4294967295 ∷ 4294967295 ∷ 4294967292 ∷ 3 ∷ 5 ∷ 1 ∷ 3221225472 ∷ []
shows_shift = unfold everything in refl

-- "The shift count is the second part's low five bits": 32 and 64 shift by 0, 33 by 1, 63, -1 and the lowest value and 31 by 31
shows_shift_count
    : values
    arithmetic_shift
    ((2147483648, 32) ∷ (2147483648, 33) ∷ (2147483648, 64) ∷ (2147483648, 63) ∷ (2147483648, 4294967295) ∷ (2147483648, 2147483679) ∷ (7, 32) ∷ (7, 33) ∷ [])
    ≡ 2147483648 ∷ 3221225472 ∷ 2147483648 ∷ 4294967295 ∷ 4294967295 ∷ 4294967295 ∷ 7 ∷ 3 ∷ []
shows_shift_count = unfold everything in refl

-- "Division rounds toward zero": -7 / 2 is -3, 7 / -2 is -3, -7 / -2 is 3, 7 / 2 is 3; -1 / 2 and 1 / -2 are 0
shows_division
    : values
    signed_division
    ((4294967289, 2) ∷ (7, 4294967294) ∷ (4294967289, 4294967294) ∷ (7, 2) ∷ (4294967295, 2) ∷ (1, 4294967294) ∷ (4294967288, 2) ∷ (6, 3) ∷ [])
    ≡ 4294967293 ∷ 4294967293 ∷ 3 ∷ 3 ∷ 0 ∷ 0 ∷ 4294967292 ∷ 2 ∷ []
shows_division = unfold everything in refl

-- "a zero divisor gives 0"
shows_zero_divisor
    : values signed_division ((0, 0) ∷ (1, 0) ∷ (2147483647, 0) ∷ (2147483648, 0) ∷ (4294967295, 0) ∷ []) ≡ replicate {A = ℕ} 5 0
shows_zero_divisor = unfold everything in refl

-- "the lowest value divided by minus one gives the lowest value again"; its neighbours on either side
shows_lowest_divided
    : values
    signed_division
    ((2147483648, 4294967295) ∷ (2147483649, 4294967295) ∷ (2147483647, 4294967295) ∷ (2147483648, 1) ∷ (2147483648, 4294967294) ∷ (2147483648, 2147483648) ∷ [])
    ≡ 2147483648 ∷ 2147483647 ∷ 2147483649 ∷ 2147483648 ∷ 1073741824 ∷ 1 ∷ []
shows_lowest_divided = unfold everything in refl

-- a divisor of greater magnitude: 1, -1 and the greatest value by the lowest, the lowest by the greatest
shows_small_dividend
    : values signed_division ((1, 2147483648) ∷ (4294967295, 2147483648) ∷ (2147483647, 2147483648) ∷ (2147483648, 2147483647) ∷ [])
    ≡ 0 ∷ 0 ∷ 0 ∷ 4294967295 ∷ []
shows_small_dividend = unfold everything in refl

-- Registers 0 to 2 take the operation of kinds 9, 10 and 11, each of register 3 (-7) first and register 4 (2) second.
abbrev operation : ℕ → ℕ → List (List ℕ)
operation first kind = reads 3 ∷ reads 4 ∷ node kind 0 first (1 + first) 0 ∷ []

abbrev operations : List ℕ
operations =
    one_state
    (1 ∷ [])
    (replicate 3 (register_record 0 0 9) ++ (register_record 0 0 4294967289 ∷ register_record 0 0 2 ∷ []))
    7
    (assigns 0 2 ∷ assigns 1 5 ∷ sequences 1 2 ∷ assigns 2 8 ∷ sequences 3 4 ∷ goes_to 1 ∷ sequences 5 6 ∷ [])
    (operation 0 9 ++ operation 3 10 ++ operation 6 11)

-- "Expression kinds 9, 10 and 11 are signed less, arithmetic right shift and signed division"
shows_signed_kinds : listing (1 ∷ 0 ∷ operations) ≡ bytes_of_text "cycle;walk;registers\n1;0 1;1 4294967294 4294967293 4294967289 2\n"
shows_signed_kinds = unfold everything in refl
