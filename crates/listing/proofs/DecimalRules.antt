-- A number in decimal has one digit more than a tenth of it: its last digit is what dividing by ten leaves, and those before it are those of the tenth. So
-- they can be counted, and written from the last one on, by dividing.
use Prim.Native.Nat.{ℕ, zero, suc, ◌+◌, ◌-◌, ◌/◌, ◌%◌, ◌^◌, ◌≤◌, ◌<◌}
use mathlib.Core.Path.{◌≡◌, refl, sym, ◌∙◌, ap}
use mathlib.Core.Bool.{true, false}
use mathlib.Core.List.{List, [], ◌∷◌, ◌++◌}
use native.Mathlib.Omega.{arith}
use native.Mathlib.Decide.{dec_lt}
use native.Mathlib.Nat.{pow-suc, div-lt_iff_lt-mul, mod-eq_of_lt}
use lib.Dec.{ltb}
use lib.ListN.{length, set, length-append, length-set}
use lib.Seq.{set_comm}
use borrow.Author.Tests.{lt-ltb, le-ltb}
use Rattle.model.specs.Listing.{decimal}
use Rattle.model.proofs.Laws.Indices.{recursively_step, only_below, only_below_at}
use Rattle.listing.specs.Texts.{written, Put}

-- ---- the last digit and those before it
abbrev decimal_step : ℕ → (ℕ → List ℕ) → List ℕ
decimal_step m shorter = elim (ltb m 10) [ true ↦ (48 + m) ∷ [] | false ↦ shorter (m / 10) ++ (48 + m % 10) ∷ [] ]

decimal_step_lem : (n : ℕ) → decimal n ≡ decimal_step n (only_below [] n decimal)
unfolding decimal
decimal_step_lem n = recursively_step [] decimal_step n

decimal_small : (n : ℕ) → n < 10 → decimal n ≡ (48 + n) ∷ []
decimal_small n l = decimal_step_lem n ∙ rw (lt-ltb n 10 l, decimal_step)

decimal_large : (n : ℕ) → 10 ≤ n → decimal n ≡ decimal (n / 10) ++ (48 + n % 10) ∷ []
decimal_large n l =
    decimal_step_lem n
    ∙ rw (le-ltb n 10 l, decimal_step) (ap (λ (shorter : List ℕ). shorter ++ (48 + n % 10) ∷ []) (only_below_at [] n (n / 10) decimal (omega arith)))

length-large : (n : ℕ) → 10 ≤ n → length (decimal n) ≡ length (decimal (n / 10)) + 1
length-large n l = ap length (decimal_large n l) ∙ length-append (decimal (n / 10)) ((48 + n % 10) ∷ [])

length-small : (n : ℕ) → n < 10 → length (decimal n) ≡ 1
length-small n l = ap length (decimal_small n l)

-- ---- how many digits
pub one_digit : (n : ℕ) → 1 ≤ length (decimal n)
one_digit n = go (dec_lt n 10)
  where
    go : Dec (n < 10) → 1 ≤ length (decimal n)
    go (yes l) = let one = length-small n l in omega arith
    go (no l) = let more = length-large n (omega arith) in omega arith

few_digits : (k n : ℕ) → n < 10 ^ suc k → length (decimal n) ≤ suc k
few_digits zero n l = let one = length-small n l in omega arith
few_digits (suc k) n l = go (dec_lt n 10) (few_digits k (n / 10) ((div-lt_iff_lt-mul (omega arith)).1 (rw (pow-suc 10 (suc k)) at l)))
  where
    go : Dec (n < 10) → length (decimal (n / 10)) ≤ suc k → length (decimal n) ≤ suc (suc k)
    go (yes h) shorter = let one = length-small n h in omega arith
    go (no h) shorter = let more = length-large n (omega arith) in omega arith

-- ---- the loop of `digits`
-- the digits that are left to count: none of 0
unfoldable pub digits_left : ℕ → ℕ
digits_left zero = 0
digits_left (suc m) = length (decimal (suc m))

left_step : (m : ℕ) → 0 < m → digits_left m ≡ suc (digits_left (m / 10))
unfolding digits_left
left_step zero l = absurd (omega arith)
left_step (suc m) l = go (dec_lt (suc m) 10) (suc m / 10) refl
  where
    go : Dec (suc m < 10) → (tenth : ℕ) → suc m / 10 ≡ tenth → length (decimal (suc m)) ≡ suc (digits_left tenth)
    go (yes h) zero e = length-small (suc m) h
    go (yes h) (suc t) e = absurd (omega arith)
    go (no h) zero e = absurd (omega arith)
    go (no h) (suc t) e = let more = length-large (suc m) (omega arith) in let same = ap (λ (x : ℕ). length (decimal x)) e in omega arith

whole_digits : (n : ℕ) → length (decimal n) ≡ suc (digits_left (n / 10))
unfolding digits_left
whole_digits zero = length-small 0 (omega arith)
whole_digits (suc m) = left_step (suc m) (omega arith)

-- k digits are counted, and those of the rest are left
pub record DigitsSo (n k rest : ℕ) : Type 0 where
  pub counted : length (decimal n) ≡ k + digits_left rest
  pub few : length (decimal n) ≤ 10

pub digits_begin : (n : ℕ) → n < 2 ^ 32 → DigitsSo n 1 (n / 10)
digits_begin n l = let all = whole_digits n in record { counted = omega arith; few = few_digits 9 n (omega arith) }

module _ {n k rest : ℕ} (so : DigitsSo n k rest) where
  pub digits_more : 0 < rest → DigitsSo n (k + 1) (rest / 10)
  digits_more l = let step = left_step rest l in let counted = so.counted in record { counted = omega arith; few = so.few }

  pub digits_counted : rest ≤ 0 → k ≡ length (decimal n)
  unfolding digits_left
  digits_counted l = let none : rest ≡ 0 = omega arith in let counted = rw none at so.counted in omega arith

  pub digits_few : k ≤ 10
  digits_few = let counted = so.counted in let few = so.few in omega arith

-- ---- the digits
-- the last k digits of a number, the last one behind those of a tenth of it
unfoldable pub last_digits : ℕ → ℕ → List ℕ
last_digits n zero = []
last_digits n (suc k) = last_digits (n / 10) k ++ (48 + n % 10) ∷ []

length_last : (k n : ℕ) → length (last_digits n k) ≡ k
unfolding last_digits
length_last zero n = refl
length_last (suc k) n =
    let shorter = length_last k (n / 10) in
    let more = length-append (last_digits (n / 10) k) ((48 + n % 10) ∷ []) in
    omega arith

digits_are : (k n : ℕ) → length (decimal n) ≡ k → decimal n ≡ last_digits n k
unfolding last_digits
digits_are zero n e = let some = one_digit n in absurd (omega arith)
digits_are (suc k) n e = go (dec_lt n 10) (λ h. digits_are k (n / 10) h)
  where
    go : Dec (n < 10) → (length (decimal (n / 10)) ≡ k → decimal (n / 10) ≡ last_digits (n / 10) k) → decimal n ≡ last_digits (n / 10) k ++ (48 + n % 10) ∷ []
    go (yes l) shorter =
        let one = length-small n l in
        let none : k ≡ 0 = omega arith in
        rw none (decimal_small n l ∙ ap (λ (m : ℕ). (48 + m) ∷ []) (sym (mod-eq_of_lt l)))
    go (no l) shorter =
        let more = length-large n (omega arith) in
        decimal_large n (omega arith) ∙ ap (λ (before : List ℕ). before ++ (48 + n % 10) ∷ []) (shorter (omega arith))

-- a text may be written from its end: its last byte first
written_last : (xs out : List ℕ) (at d : ℕ) → written out at (xs ++ d ∷ []) ≡ written (set out (at + length xs) d) at xs
unfolding written
written_last [] out at d = let here : at + 0 ≡ at = omega arith in rw here
written_last (x ∷ xs) out at d =
    let there : at + 1 + length xs ≡ at + suc (length xs) = omega arith in
    written_last xs (set out at x) (at + 1) d
    ∙ rw there (ap (λ (area : List ℕ). written area (at + 1) xs) (set_comm out at (at + suc (length xs)) x d (λ e. omega arith)))

-- the loop of `put_decimal`: the last k digits of the rest are left to be put, from `at` on
pub record DecimalSo (n : ℕ) (out₀ : List ℕ) (at : ℕ) (out : List ℕ) (rest k : ℕ) : Type 0 where
  pub left : written out at (last_digits rest k) ≡ written out₀ at (decimal n)
  pub few : k ≤ 10
  pub room : at + 10 ≤ length out₀
  pub long : length out ≡ length out₀

pub decimal_begins : {n at k : ℕ} (out : List ℕ) → at + 10 ≤ length out → k ≡ length (decimal n) → k ≤ 10 → DecimalSo n out at out n k
decimal_begins {n} {at} {k} out room e few = record { left = ap (written out at) (sym (digits_are k n (sym e))); few = few; room = room; long = refl }

module _ {n at rest k : ℕ} {out₀ out : List ℕ} (so : DecimalSo n out₀ at out rest k) where
  pub decimal_more : {b : ℕ} → 0 < k → b ≡ 48 + rest % 10 → DecimalSo n out₀ at (set out (at + (k - 1)) b) (rest / 10) (k - 1)
  unfolding last_digits
  decimal_more {b} l e =
      let one : k ≡ suc (k - 1) = omega arith in
      let few = so.few in
      let before = last_digits (rest / 10) (k - 1) in
      let last = written_last before out at (48 + rest % 10) in
      let here : written (set out (at + (k - 1)) b) at before ≡ written (set out (at + length before) (48 + rest % 10)) at before =
      ap (λ (m : ℕ). written (set out (at + m) b) at before) (sym (length_last (k - 1) (rest / 10)))
      ∙ ap (λ (c : ℕ). written (set out (at + length before) c) at before) e in
      record {
        left = here ∙ sym last ∙ (rw one at so.left);
        few = omega arith;
        room = so.room;
        long = length-set out (at + (k - 1)) b ∙ so.long;
      }

  pub decimal_done : {count : ℕ} → k ≤ 0 → count ≡ length (decimal n) → Put out₀ at (decimal n) out (at + count)
  unfolding written last_digits
  decimal_done l e =
      let none : k ≡ 0 = omega arith in
      record { bytes = rw none at so.left; behind = ap (λ (m : ℕ). at + m) e }

pub decimal_short : (at : ℕ) {count : ℕ} → count ≤ 10 → at + count ≤ at + 10
decimal_short at l = omega arith
