-- A list with every number below a count exactly once: what is joined for its entries holds every number as often as what is joined for the numbers below the count, since both are
-- sums over the same numbers.
use Prim.Native.Nat.{ℕ, zero, suc, ◌+◌, ◌*◌, ◌<◌}
use mathlib.Core.Path.{◌≡◌, refl, sym, ◌∙◌, ap, ap₂}
use mathlib.Core.Logic.{⊎_elim}
use mathlib.Core.Bool.{true, false}
use mathlib.Core.List.{List, [], ◌∷◌, Memᴰ}
use native.Mathlib.Omega.{arith}
use native.Mathlib.Nat.{zero-mul, mul-zero, one-mul, add-mul}
use native.Mathlib.Decide.{dec_lt}
use lib.Dec.{eqb}
use lib.ListN.{length, get_or}
use borrow.Author.Tests.{eqb-true, eq-eqb}
use Rattle.model.specs.Indices.{occurrences, join_below, join_each}
use Rattle.model.proofs.Laws.Booleans.{decide}
use Rattle.model.proofs.Laws.Indices.{below_suc, nothing_below_zero}
use Rattle.renumbering.proofs.Uses.{occurrences_append, occurs_in}
use Rattle.filing_model.specs.Filed.{place_in}
use Rattle.filing_model.proofs.Places.{occurrences_here, occurrences_later, place_of}

-- ---- sums
unfoldable sum_below : (ℕ → ℕ) → ℕ → ℕ
sum_below f zero = 0
sum_below f (suc n) = sum_below f n + f n

sum_same : (f g : ℕ → ℕ) (n : ℕ) → ((k : ℕ) → k < n → f k ≡ g k) → sum_below f n ≡ sum_below g n
unfolding sum_below
sum_same f g zero h = refl
sum_same f g (suc n) h = ap₂ ◌+◌ (sum_same f g n (λ k l. h k (omega arith))) (h n (omega arith))

sum_none : (f : ℕ → ℕ) (n : ℕ) → ((k : ℕ) → k < n → f k ≡ 0) → sum_below f n ≡ 0
unfolding sum_below
sum_none f zero h = refl
sum_none f (suc n) h = omega (arith, sum_none f n (λ k l. h k (omega arith)), h n (omega arith))

sum_both : (f g : ℕ → ℕ) (n : ℕ) → sum_below (λ k. f k + g k) n ≡ sum_below f n + sum_below g n
unfolding sum_below
sum_both f g zero = refl
sum_both f g (suc n) = omega (arith, sum_both f g n)

-- all but one are nothing
sum_one : (f : ℕ → ℕ) (n x : ℕ) → x < n → ((k : ℕ) → k < n → (k ≡ x → ⊥) → f k ≡ 0) → sum_below f n ≡ f x
unfolding sum_below
sum_one f zero x l others = absurd (nothing_below_zero l)
sum_one f (suc n) x l others =
    ⊎_elim
    (λ (b : x < n). omega (arith, sum_one f n x b (λ k m. others k (omega arith)), others n (omega arith) (λ e. omega arith)))
    (λ (e : x ≡ n). let same : f x ≡ f n = ap f e in omega (arith, sum_none f n (λ k m. others k (omega arith) (λ q. omega arith))))
    (below_suc l)

-- ---- occurrences as sums
occurs_here : (x : ℕ) → occurrences x (x ∷ []) ≡ 1
unfolding occurrences
occurs_here x = occurrences_here x x [] (eq-eqb x x refl)

occurs_not : (n x : ℕ) → (n ≡ x → ⊥) → occurrences n (x ∷ []) ≡ 0
unfolding occurrences
occurs_not n x differ =
    ⊎_elim
    (λ (e : eqb x n ≡ true). absurd (differ (sym (eqb-true x n e))))
    (λ (e : eqb x n ≡ false). occurrences_later x n [] e)
    (decide (eqb x n))

module _ (n : ℕ) (f : ℕ → List ℕ) where
  join_sum : (count : ℕ) → occurrences n (join_below f count) ≡ sum_below (λ m. occurrences n (f m)) count
  unfolding join_below sum_below occurrences
  join_sum zero = refl
  join_sum (suc count) = occurrences_append n (join_below f count) (f count) ∙ ap (λ (k : ℕ). k + occurrences n (f count)) (join_sum count)

  -- how often n stands in the lists of those entries that are m
  abbrev weighed : List ℕ → ℕ → ℕ
  weighed xs m = occurrences m xs * occurrences n (f m)

  weighed_one : (count x : ℕ) → x < count → sum_below (weighed (x ∷ [])) count ≡ occurrences n (f x)
  weighed_one count x l =
      sum_one (weighed (x ∷ [])) count x l (λ k b differ. ap (λ (i : ℕ). i * occurrences n (f k)) (occurs_not k x differ) ∙ zero-mul (occurrences n (f k)))
      ∙ ap (λ (i : ℕ). i * occurrences n (f x)) (occurs_here x)
      ∙ one-mul (occurrences n (f x))

  weighed_entry : (x : ℕ) (xs : List ℕ) (m : ℕ) → weighed (x ∷ xs) m ≡ weighed (x ∷ []) m + weighed xs m
  weighed_entry x xs m =
      ap (λ (k : ℕ). k * occurrences n (f m)) (occurrences_append m (x ∷ []) xs) ∙ add-mul (occurrences m (x ∷ [])) (occurrences m xs) (occurrences n (f m))

  each_sum : (count : ℕ) (xs : List ℕ) → ((m : ℕ) → Memᴰ m xs → m < count) → occurrences n (join_each f xs) ≡ sum_below (weighed xs) count
  unfolding join_each occurrences
  each_sum count [] below = sym (sum_none (weighed []) count (λ k l. zero-mul (occurrences n (f k))))
  each_sum count (x ∷ xs) below =
      occurrences_append n (f x) (join_each f xs)
      ∙ ap₂ ◌+◌ (sym (weighed_one count x (below x (Memᴰ.head refl)))) (each_sum count xs (λ m h. below m (Memᴰ.tail h)))
      ∙ sym (sum_both (weighed (x ∷ [])) (weighed xs) count)
      ∙ sym (sum_same (weighed (x ∷ xs)) (λ m. weighed (x ∷ []) m + weighed xs m) count (λ m l. weighed_entry x xs m))

  -- where the list has each number that matters once, joining for its entries is joining below the count
  pub each_below : (count : ℕ) (xs : List ℕ) → ((m : ℕ) → Memᴰ m xs → m < count)
      → ((m : ℕ) → m < count → Memᴰ n (f m) → occurrences m xs ≡ 1)
      → occurrences n (join_each f xs) ≡ occurrences n (join_below f count)
  each_below count xs below once = each_sum count xs below ∙ sum_same _ _ count same ∙ sym (join_sum count)
    where
      same : (m : ℕ) → m < count → occurrences m xs * occurrences n (f m) ≡ occurrences n (f m)
      same m l = go (dec_lt 0 (occurrences n (f m)))
        where
          go : Dec (0 < occurrences n (f m)) → occurrences m xs * occurrences n (f m) ≡ occurrences n (f m)
          go (yes h) = ap (λ (k : ℕ). k * occurrences n (f m)) (once m l (occurs_in n (f m) h)) ∙ one-mul (occurrences n (f m))
          go (no h) = let none : occurrences n (f m) ≡ 0 = omega arith in ap (λ (k : ℕ). occurrences m xs * k) none ∙ mul-zero (occurrences m xs) ∙ sym none

-- ---- every number below a count once
pub record Enumerates (xs : List ℕ) (count : ℕ) : Type 0 where
  pub once : (n : ℕ) → n < count → occurrences n xs ≡ 1
  pub below : (n : ℕ) → Memᴰ n xs → n < count

-- its length: as many marks as entries, and as many as numbers
each_marked : (xs : List ℕ) → occurrences 0 (join_each (λ k. 0 ∷ []) xs) ≡ length xs
unfolding join_each occurrences
each_marked [] = refl
each_marked (x ∷ xs) = occurrences_here 0 0 (join_each (λ k. 0 ∷ []) xs) (eq-eqb 0 0 refl) ∙ ap suc (each_marked xs)

below_marked : (n : ℕ) → occurrences 0 (join_below (λ k. 0 ∷ []) n) ≡ n
unfolding join_below occurrences
below_marked zero = refl
below_marked (suc n) = omega (arith, occurrences_append 0 (join_below (λ k. 0 ∷ []) n) (0 ∷ []), below_marked n, occurs_here 0)

module _ {xs : List ℕ} {count : ℕ} (all : Enumerates xs count) where
  pub enumerated : (n : ℕ) → n < count → Memᴰ n xs
  enumerated n l = occurs_in n xs (omega (arith, all.once n l))

  pub enumerated_long : length xs ≡ count
  enumerated_long = sym (each_marked xs) ∙ each_below 0 (λ k. 0 ∷ []) count xs all.below (λ m l h. all.once m l) ∙ below_marked count

  pub enumerated_place : (i : ℕ) → i < count → place_in xs (get_or xs i 0) ≡ i
  enumerated_place i l = place_of xs i (omega (arith, enumerated_long)) (λ n h. all.once n (all.below n h))

  pub enumerated_each : (n : ℕ) (f : ℕ → List ℕ) → occurrences n (join_each f xs) ≡ occurrences n (join_below f count)
  enumerated_each n f = each_below n f count xs all.below (λ m l h. all.once m l)
