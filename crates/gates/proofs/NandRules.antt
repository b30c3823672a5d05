-- A gate on wires of one byte each: there are four such bytes, so the sixteen pairs are looked at one by one.
use Prim.Native.Nat.{ℕ, zero, suc, ◌+◌, ◌-◌, ◌<◌}
use mathlib.Core.Path.{◌≡◌, refl}
use mathlib.Core.Bool.{true, false, ◌||◌, true≢false, false≢true}
use native.Mathlib.Omega.{arith}
use lib.Bits.{bit_and, bit_or}
use lib.Dec.{eqb}
use Rattle.gates_model.specs.Signals.{nand}
use Rattle.gates.specs.Codes.{code_of, signal_of}

below_four : (P : ℕ → Type 0) → P 0 → P 1 → P 2 → P 3 → (a : ℕ) → a < 4 → P a
below_four P p q r s zero l = p
below_four P p q r s (suc zero) l = q
below_four P p q r s (suc (suc zero)) l = r
below_four P p q r s (suc (suc (suc zero))) l = s
below_four P p q r s (suc (suc (suc (suc a)))) l = absurd (omega arith)

-- a trusted 0 decides
pub nand_decided : (a b : ℕ) → a < 4 → b < 4 → (eqb a 0 || eqb b 0) ≡ true → 1 ≡ code_of (nand (signal_of a) (signal_of b))
unfolding nand
nand_decided a b la lb =
    below_four
    (λ a. (b : ℕ) → b < 4 → (eqb a 0 || eqb b 0) ≡ true → 1 ≡ code_of (nand (signal_of a) (signal_of b)))
    (below_four (λ b. true ≡ true → 1 ≡ code_of (nand (signal_of 0) (signal_of b))) (λ h. refl) (λ h. refl) (λ h. refl) (λ h. refl))
    (below_four (λ b. eqb b 0 ≡ true → 1 ≡ code_of (nand (signal_of 1) (signal_of b))) (λ h. refl) (λ h. absurd (false≢true h)) (λ h. absurd (false≢true h)) (λ h. absurd (false≢true h)))
    (below_four (λ b. eqb b 0 ≡ true → 1 ≡ code_of (nand (signal_of 2) (signal_of b))) (λ h. refl) (λ h. absurd (false≢true h)) (λ h. absurd (false≢true h)) (λ h. absurd (false≢true h)))
    (below_four (λ b. eqb b 0 ≡ true → 1 ≡ code_of (nand (signal_of 3) (signal_of b))) (λ h. refl) (λ h. absurd (false≢true h)) (λ h. absurd (false≢true h)) (λ h. absurd (false≢true h)))
    a
    la
    b
    lb

abbrev undecided : ℕ → ℕ → Type 0
undecided a b = (eqb a 0 || eqb b 0) ≡ false → bit_and (bit_or a b) 2 + 1 - bit_and (bit_and a b) 1 ≡ code_of (nand (signal_of a) (signal_of b))

pub nand_undecided : (a b : ℕ) → a < 4 → b < 4 → (eqb a 0 || eqb b 0) ≡ false → bit_and (bit_or a b) 2 + 1 - bit_and (bit_and a b) 1 ≡ code_of (nand (signal_of a) (signal_of b))
unfolding nand
nand_undecided a b la lb =
    below_four
    (λ a. (b : ℕ) → b < 4 → undecided a b)
    (below_four (undecided 0) (λ h. absurd (true≢false h)) (λ h. absurd (true≢false h)) (λ h. absurd (true≢false h)) (λ h. absurd (true≢false h)))
    (below_four (undecided 1) (λ h. absurd (true≢false h)) (λ h. refl) (λ h. refl) (λ h. refl))
    (below_four (undecided 2) (λ h. absurd (true≢false h)) (λ h. refl) (λ h. refl) (λ h. refl))
    (below_four (undecided 3) (λ h. absurd (true≢false h)) (λ h. refl) (λ h. refl) (λ h. refl))
    a
    la
    b
    lb
