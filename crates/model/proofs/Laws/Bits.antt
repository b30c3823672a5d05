-- The bits of a conjunction are set where both are.
use Prim.Native.Nat.{ℕ, zero, suc, ◌/◌, ◌%◌, ◌^◌, ◌<◌}
use mathlib.Core.Path.{◌≡◌, refl, ◌∙◌, ap}
use mathlib.Core.Bool.{◌&&◌}
use native.Mathlib.Omega.{arith}
use lib.Bits.{bit_and, and_shr, and_mod}
use lib.Dec.{eqb}

bit_of_bits : (u v : ℕ) → u < 2 → v < 2 → eqb (bit_and u v) 1 ≡ (eqb u 1 && eqb v 1)
bit_of_bits zero v h k = refl
bit_of_bits (suc zero) zero h k = refl
bit_of_bits (suc zero) (suc zero) h k = refl
bit_of_bits (suc zero) (suc (suc v)) h k = absurd (omega arith)
bit_of_bits (suc (suc u)) v h k = absurd (omega arith)

pub bit_and_lem : (a b l : ℕ) → eqb (bit_and a b / 2 ^ l % 2) 1 ≡ (eqb (a / 2 ^ l % 2) 1 && eqb (b / 2 ^ l % 2) 1)
bit_and_lem a b l =
    ap (λ (n : ℕ). eqb (n % 2) 1) (and_shr a b l)
    ∙ ap (λ (n : ℕ). eqb n 1) (and_mod (a / 2 ^ l) (b / 2 ^ l) 1)
    ∙ bit_of_bits (a / 2 ^ l % 2) (b / 2 ^ l % 2) (omega arith) (omega arith)
