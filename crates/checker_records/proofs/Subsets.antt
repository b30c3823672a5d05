-- Masks as sets: a mask lies inside another exactly where every bit of it is a bit of the other.
use Prim.Native.Nat.{ℕ, zero, suc, ◌+◌, ◌-◌, ◌/◌, ◌%◌, ◌^◌, ◌<◌}
use mathlib.Core.Path.{◌≡◌, refl, sym, ◌∙◌, ap}
use mathlib.Core.Bool.{Bool, true, false, ◌&&◌, true≢false, false≢true}
use native.Mathlib.Omega.{arith}
use native.Mathlib.Nat.{lt_of_le_of_lt, pow-suc, add_comm, one-mul, div-one}
use native.Mathlib.Numerals.{add-one}
use lib.Arith.{lt-one}
use lib.Pow.{shr-shr, shl-shr, field, mod-mod-pow}
use lib.Bits.{bit_and, and_le_l, and_mask}
use lib.Dec.{eqb}
use borrow.Author.Tests.{eq-eqb, eqb-true}
use Rattle.model.specs.Indices.{all_below}
use Rattle.model.specs.Lattice.{implies}
use Rattle.model.proofs.Laws.Bits.{bit_and_lem}
use Rattle.model.proofs.Laws.Booleans.{and_second}
use Rattle.model.proofs.Laws.Indices.{all_at, all_make}

-- bit l of a mask
abbrev pub bit_of : ℕ → ℕ → Bool
bit_of a l = eqb (a / 2 ^ l % 2) 1

-- ---- numbers by their bits
same_digit : (u v : ℕ) → u < 2 → v < 2 → eqb u 1 ≡ eqb v 1 → u ≡ v
same_digit zero zero h k e = refl
same_digit zero (suc zero) h k e = absurd (false≢true e)
same_digit (suc zero) zero h k e = absurd (true≢false e)
same_digit (suc zero) (suc zero) h k e = refl
same_digit zero (suc (suc v)) h k e = absurd (omega arith)
same_digit (suc zero) (suc (suc v)) h k e = absurd (omega arith)
same_digit (suc (suc u)) v h k e = absurd (omega arith)

-- bit l of the half is the next bit
bit_half : (a l : ℕ) → bit_of (a / 2) l ≡ bit_of a (suc l)
bit_half a l = ap (λ (n : ℕ). eqb (n % 2) 1) (shr-shr a 1 l ∙ ap (λ (n : ℕ). a / 2 ^ n) (add_comm 1 l ∙ add-one l))

half_below : (a n : ℕ) → a < 2 ^ suc n → a / 2 < 2 ^ n
half_below a n l = let two = pow-suc 2 n in omega arith

-- numbers below 2 ^ n with the same n bits are one
pub same_bits : (n a b : ℕ) → a < 2 ^ n → b < 2 ^ n → ((l : ℕ) → l < n → bit_of a l ≡ bit_of b l) → a ≡ b
same_bits zero a b h k same = lt-one h ∙ sym (lt-one k)
same_bits (suc n) a b h k same =
    let halves = same_bits n (a / 2) (b / 2) (half_below a n h) (half_below b n k) (λ l m. bit_half a l ∙ same (suc l) (omega arith) ∙ sym (bit_half b l)) in
    let digits = same_digit (a % 2) (b % 2) (omega arith) (omega arith) (rw (div-one a, div-one b) at (same 0 (omega arith))) in
    omega arith

-- ---- a mask inside another
and_of_implies : (a b : Bool) → implies a b ≡ true → (a && b) ≡ a
and_of_implies true b e = e
and_of_implies false b e = refl

implies_of_and : (a b : Bool) → (a && b) ≡ a → implies a b ≡ true
implies_of_and true b e = e
implies_of_and false b e = refl

same_truth : (a b : Bool) → (a ≡ true → b ≡ true) → (b ≡ true → a ≡ true) → a ≡ b
same_truth true b f g = sym (f refl)
same_truth false true f g = g refl
same_truth false false f g = refl

pub inside : (a b n : ℕ) → a < 2 ^ n → eqb (bit_and a b) a ≡ all_below (λ l. implies (bit_of a l) (bit_of b l)) n
inside a b n h =
    same_truth
    (eqb (bit_and a b) a)
    (all_below (λ l. implies (bit_of a l) (bit_of b l)) n)
    (λ e. all_make _ n (λ l m. implies_of_and (bit_of a l) (bit_of b l) (sym (bit_and_lem a b l) ∙ ap (λ (c : ℕ). bit_of c l) (eqb-true (bit_and a b) a e))))
    (λ e.
    eq-eqb
    (bit_and a b)
    a
    (same_bits
    n
    (bit_and a b)
    a
    (lt_of_le_of_lt (and_le_l a b) h)
    h
    (λ l m. bit_and_lem a b l ∙ and_of_implies (bit_of a l) (bit_of b l) (all_at (λ l. implies (bit_of a l) (bit_of b l)) n e l m))))

-- ---- masks cut to n bits
pub cut_bit : (a n l : ℕ) → l < n → bit_of (a % 2 ^ n) l ≡ bit_of a l
cut_bit a n l h =
    let sum : n ≡ (n - l - 1 + 1) + l = omega arith in
    ap (λ (m : ℕ). bit_of (a % 2 ^ m) l) sum
    ∙ ap (λ (m : ℕ). eqb (m % 2) 1) (field a (n - l - 1 + 1) l)
    ∙ ap (λ (m : ℕ). eqb m 1) (mod-mod-pow (a / 2 ^ l) (n - l - 1) 1)

-- every one of the n bits is set in 2 ^ n - 1
pub ones_bit : (n l : ℕ) → l < n → bit_of (2 ^ n - 1) l ≡ true
ones_bit n l h =
    and_second
    (bit_of (2 ^ l) l)
    (bit_of (2 ^ n - 1) l)
    (sym (bit_and_lem (2 ^ l) (2 ^ n - 1) l) ∙ ap (λ (m : ℕ). bit_of m l) (and_mask (2 ^ l) n) ∙ cut_bit (2 ^ l) n l h ∙ set)
  where
    set : bit_of (2 ^ l) l ≡ true
    set = ap (λ (m : ℕ). eqb (m % 2) 1) (ap (λ (m : ℕ). m / 2 ^ l) (sym (one-mul (2 ^ l))) ∙ shl-shr 1 l)
