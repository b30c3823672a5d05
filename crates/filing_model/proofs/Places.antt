-- Laws of places: the place of a number in a list is that of the first entry that is it, so there it stands, and where it stands once it stands nowhere else.
use Prim.Native.Nat.{ℕ, zero, suc, ◌+◌, ◌≤◌, ◌<◌}
use mathlib.Core.Path.{◌≡◌, refl, sym, ◌∙◌, ap}
use mathlib.Core.Logic.{⊎_elim}
use mathlib.Core.Bool.{true, false}
use mathlib.Core.List.{List, [], ◌∷◌, ◌++◌, Memᴰ}
use native.Mathlib.Omega.{arith}
use lib.Dec.{eqb}
use lib.ListN.{length, get_or}
use borrow.Author.Tests.{eqb-true, eq-eqb}
use Rattle.model.specs.Indices.{occurrences}
use Rattle.model.proofs.Laws.Booleans.{decide}
use Rattle.model.proofs.Laws.Indices.{nothing_below_zero}
use Rattle.renumbering.proofs.Uses.{occurs}
use Rattle.filing_model.specs.Filed.{place_in}

-- ---- entry by entry
module _ (x n : ℕ) (xs : List ℕ) where
  place_here : eqb x n ≡ true → place_in (x ∷ xs) n ≡ 0
  unfolding place_in
  place_here e = rw e

  place_later : eqb x n ≡ false → place_in (x ∷ xs) n ≡ suc (place_in xs n)
  unfolding place_in
  place_later e = rw e

  pub occurrences_here : eqb x n ≡ true → occurrences n (x ∷ xs) ≡ suc (occurrences n xs)
  unfolding occurrences
  occurrences_here e = rw (occurrences, e)

  pub occurrences_later : eqb x n ≡ false → occurrences n (x ∷ xs) ≡ occurrences n xs
  unfolding occurrences
  occurrences_later e = rw (occurrences, e)

-- ---- the place of a number
pub place_at_most : (xs : List ℕ) (n : ℕ) → place_in xs n ≤ length xs
unfolding place_in
place_at_most [] n = omega arith
place_at_most (x ∷ xs) n =
    let later = place_at_most xs n in
    ⊎_elim
    (λ (e : eqb x n ≡ true). omega (arith, place_here x n xs e))
    (λ (e : eqb x n ≡ false). omega (arith, place_later x n xs e))
    (decide (eqb x n))

pub place_below : (xs : List ℕ) (n : ℕ) → Memᴰ n xs → place_in xs n < length xs
place_below [] n m = elim m [ ]
place_below (x ∷ xs) n (Memᴰ.head e) = omega (arith, place_here x n xs (eq-eqb x n (sym e)))
place_below (x ∷ xs) n (Memᴰ.tail h) =
    let later = place_below xs n h in
    ⊎_elim
    (λ (e : eqb x n ≡ true). omega (arith, place_here x n xs e))
    (λ (e : eqb x n ≡ false). omega (arith, place_later x n xs e))
    (decide (eqb x n))

pub place_entry : (xs : List ℕ) (n : ℕ) → Memᴰ n xs → get_or xs (place_in xs n) 0 ≡ n
place_entry [] n m = elim m [ ]
place_entry (x ∷ xs) n (Memᴰ.head e) = rw (place_here x n xs (eq-eqb x n (sym e))) (sym e)
place_entry (x ∷ xs) n (Memᴰ.tail h) =
    let later = place_entry xs n h in
    ⊎_elim
    (λ (e : eqb x n ≡ true). rw (place_here x n xs e) (eqb-true x n e))
    (λ (e : eqb x n ≡ false). rw (place_later x n xs e) later)
    (decide (eqb x n))

-- so places are apart
pub places_apart : (xs : List ℕ) (n m : ℕ) → Memᴰ n xs → Memᴰ m xs → place_in xs n ≡ place_in xs m → n ≡ m
places_apart xs n m h k e = sym (place_entry xs n h) ∙ ap (λ (i : ℕ). get_or xs i 0) e ∙ place_entry xs m k

-- an entry stands in the list
pub entry_stands : (xs : List ℕ) (i : ℕ) → i < length xs → Memᴰ (get_or xs i 0) xs
entry_stands [] i l = absurd (nothing_below_zero l)
entry_stands (x ∷ xs) zero l = Memᴰ.head refl
entry_stands (x ∷ xs) (suc i) l = Memᴰ.tail (entry_stands xs i (omega arith))

pub place_of : (xs : List ℕ) (i : ℕ) → i < length xs → ((n : ℕ) → Memᴰ n xs → occurrences n xs ≡ 1) → place_in xs (get_or xs i 0) ≡ i
place_of [] i l once = absurd (nothing_below_zero l)
place_of (x ∷ xs) zero l once = place_here x x xs (eq-eqb x x refl)
place_of (x ∷ xs) (suc i) l once =
    let here = entry_stands xs i (omega arith) in
    let later = place_of xs i (omega arith) fewer in
    ⊎_elim
    (λ (e : eqb x (get_or xs i 0) ≡ true). absurd (omega (arith, once (get_or xs i 0) (Memᴰ.tail here), occurs here, occurrences_here x (get_or xs i 0) xs e)))
    (λ (e : eqb x (get_or xs i 0) ≡ false). place_later x (get_or xs i 0) xs e ∙ ap suc later)
    (decide (eqb x (get_or xs i 0)))
  where
    fewer : (n : ℕ) → Memᴰ n xs → occurrences n xs ≡ 1
    fewer n h =
        let some = occurs h in
        let all = once n (Memᴰ.tail h) in
        ⊎_elim
        (λ (e : eqb x n ≡ true). omega (arith, occurrences_here x n xs e))
        (λ (e : eqb x n ≡ false). omega (arith, occurrences_later x n xs e))
        (decide (eqb x n))

-- ---- places in appended lists
pub place_first : (xs ys : List ℕ) (n : ℕ) → place_in xs n < length xs → place_in (xs ++ ys) n ≡ place_in xs n
place_first [] ys n l = absurd (nothing_below_zero l)
place_first (x ∷ xs) ys n l =
    ⊎_elim
    (λ (e : eqb x n ≡ true). place_here x n (xs ++ ys) e ∙ sym (place_here x n xs e))
    (λ (e : eqb x n ≡ false). place_later x n (xs ++ ys) e ∙ ap suc (place_first xs ys n (omega (arith, place_later x n xs e))) ∙ sym (place_later x n xs e))
    (decide (eqb x n))

pub place_behind : (xs ys : List ℕ) (n : ℕ) → place_in (xs ++ ys) n ≤ length xs + place_in ys n
place_behind [] ys n = omega arith
place_behind (x ∷ xs) ys n =
    let later = place_behind xs ys n in
    ⊎_elim
    (λ (e : eqb x n ≡ true). omega (arith, place_here x n (xs ++ ys) e))
    (λ (e : eqb x n ≡ false). omega (arith, place_later x n (xs ++ ys) e))
    (decide (eqb x n))
