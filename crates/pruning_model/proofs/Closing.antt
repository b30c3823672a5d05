-- Laws of numbers closed up: the new number of n grows by one at each number that stays and by none at any other, so it counts what stays, keeps the order of what
-- stays, and is the place of an entry that stays among those that stay.
use Prim.Native.Nat.{ℕ, zero, suc, ◌+◌, ◌≤◌, ◌<◌}
use mathlib.Core.Path.{◌≡◌, refl, ◌∙◌, ap}
use mathlib.Core.Logic.{◌⊎◌, inl, inr, ⊎_elim}
use mathlib.Core.Bool.{Bool, true, false}
use mathlib.Core.List.{List, [], ◌∷◌, map}
use native.Mathlib.Omega.{arith}
use native.Mathlib.Nat.{zero-add, add-zero}
use native.Mathlib.Decide.{dec_lt}
use lib.ListN.{length, get_or, length-map}
use Rattle.model.proofs.Laws.Booleans.{decide}
use Rattle.model.proofs.Laws.Indices.{below_suc, nothing_below_zero, get_or-written}
use Rattle.pruning_model.specs.Pruned.{closed_up, staying_from, staying}

-- ---- new numbers
module _ (stays : ℕ → Bool) where
  pub closed_stays : (n : ℕ) → stays n ≡ true → closed_up stays (suc n) ≡ suc (closed_up stays n)
  unfolding closed_up
  closed_stays n h = rw h (omega arith)

  pub closed_goes : (n : ℕ) → stays n ≡ false → closed_up stays (suc n) ≡ closed_up stays n
  unfolding closed_up
  closed_goes n h = rw h (omega arith)

  closed_step : (n : ℕ) → closed_up stays n ≤ closed_up stays (suc n)
  unfolding closed_up
  closed_step n = omega arith

  pub closed_zero : closed_up stays 0 ≡ 0
  unfolding closed_up
  closed_zero = refl

  pub closed_grows : (i j : ℕ) → i ≤ j → closed_up stays i ≤ closed_up stays j
  closed_grows i zero l = let same : i ≡ 0 = omega arith in rw same (omega arith)
  closed_grows i (suc j) l = go (closed_grows i j) (dec_lt j i)
    where
      go : (i ≤ j → closed_up stays i ≤ closed_up stays j) → Dec (j < i) → closed_up stays i ≤ closed_up stays (suc j)
      go below (yes h) = let same : i ≡ suc j = omega arith in rw same (omega arith)
      go below (no h) = omega (arith, below (omega arith), closed_step j)

  pub closed_at_most : (n : ℕ) → closed_up stays n ≤ n
  closed_at_most zero = omega (arith, closed_zero)
  closed_at_most (suc n) = let h = closed_at_most n in ⊎_elim (λ (e : stays n ≡ true). omega (arith, closed_stays n e)) (λ (e : stays n ≡ false). omega (arith, closed_goes n e)) (decide (stays n))

  -- what stays keeps its order, and has a number of its own
  pub closed_order : (i j : ℕ) → stays i ≡ true → i < j → closed_up stays i < closed_up stays j
  closed_order i j h l = omega (arith, closed_stays i h, closed_grows (suc i) j l)

  pub closed_apart : (i j : ℕ) → stays i ≡ true → stays j ≡ true → closed_up stays i ≡ closed_up stays j → i ≡ j
  closed_apart i j p q e = go (dec_lt i j) (dec_lt j i)
    where
      go : Dec (i < j) → Dec (j < i) → i ≡ j
      go (yes l) k = absurd (omega (arith, closed_order i j p l))
      go (no l) (yes k) = absurd (omega (arith, closed_order j i q k))
      go (no l) (no k) = omega arith

  -- every new number is that of one that stays
  pub closed_from : (n k : ℕ) → k < closed_up stays n → (i : ℕ) × (i < n) × (stays i ≡ true) × (closed_up stays i ≡ k)
  closed_from zero k l = absurd (omega (arith, closed_zero))
  closed_from (suc n) k l = go (dec_lt k (closed_up stays n)) (λ h. closed_from n k h) (decide (stays n))
    where
      go :
          Dec (k < closed_up stays n)
          → (k < closed_up stays n → (i : ℕ) × (i < n) × (stays i ≡ true) × (closed_up stays i ≡ k))
          → (stays n ≡ true) ⊎ (stays n ≡ false)
          → (i : ℕ) × (i < suc n) × (stays i ≡ true) × (closed_up stays i ≡ k)
      go (yes h) earlier t = let found = earlier h in let below = found.1 in (found.0, omega arith, found.2, found.3)
      go (no h) earlier (inl t) = (n, omega arith, t, omega (arith, closed_stays n t))
      go (no h) earlier (inr t) = absurd (omega (arith, closed_goes n t))

  -- where all stay, nothing is renumbered
  pub closed_all : (n : ℕ) → ((i : ℕ) → i < n → stays i ≡ true) → closed_up stays n ≡ n
  closed_all zero all = closed_zero
  closed_all (suc n) all = closed_stays n (all n (omega arith)) ∙ ap suc (closed_all n (λ i l. all i (omega arith)))

  pub closed_same : (n : ℕ) → ((i : ℕ) → i < n → stays i ≡ true) → (i : ℕ) → i ≤ n → closed_up stays i ≡ i
  closed_same n all i l = closed_all i (λ k below. all k (omega arith))

-- ---- as a count: where more stay, the count is no lower, and where it is the same, no more stay
module _ (some more : ℕ → Bool) where
  pub count_grows : (n : ℕ) → ((i : ℕ) → i < n → some i ≡ true → more i ≡ true) → closed_up some n ≤ closed_up more n
  count_grows zero grows = omega (arith, closed_zero some)
  count_grows (suc n) grows =
      let earlier = count_grows n (λ i l. grows i (omega arith)) in
      ⊎_elim
      (λ (e : some n ≡ true). omega (arith, closed_stays some n e, closed_stays more n (grows n (omega arith) e)))
      (λ (e : some n ≡ false). omega (arith, closed_goes some n e, closed_step more n))
      (decide (some n))

  pub count_rests :
      (n : ℕ)
      → ((i : ℕ) → i < n → some i ≡ true → more i ≡ true)
      → closed_up more n ≤ closed_up some n
      → (i : ℕ) → i < n → more i ≡ true → some i ≡ true
  count_rests zero grows same i l h = absurd (nothing_below_zero l)
  count_rests (suc n) grows same i l h = go (decide (some n)) (λ (e : closed_up more n ≤ closed_up some n) (k : i < n). count_rests n (λ k b. grows k (omega arith)) e i k h) (below_suc l)
    where
      go : (some n ≡ true) ⊎ (some n ≡ false) → (closed_up more n ≤ closed_up some n → i < n → some i ≡ true) → (i < n) ⊎ (i ≡ n) → some i ≡ true
      go (inl e) earlier (inl k) = earlier (omega (arith, closed_stays some n e, closed_stays more n (grows n (omega arith) e))) k
      go (inl e) earlier (inr k) = rw k e
      go (inr e) earlier (inl k) = earlier (omega (arith, closed_goes some n e, closed_step more n)) k
      go (inr e) earlier (inr k) =
          let fewer = count_grows n (λ k b. grows k (omega arith)) in
          absurd (omega (arith, closed_goes some n e, closed_stays more n (rw k at h)))

-- ---- the entries that stay
module _ {A : Type 0} (stays : ℕ → Bool) where
  staying_here : (i : ℕ) (x : A) (xs : List A) → stays i ≡ true → staying_from stays i (x ∷ xs) ≡ x ∷ staying_from stays (suc i) xs
  unfolding staying_from
  staying_here i x xs h = rw h

  staying_not_here : (i : ℕ) (x : A) (xs : List A) → stays i ≡ false → staying_from stays i (x ∷ xs) ≡ staying_from stays (suc i) xs
  unfolding staying_from
  staying_not_here i x xs h = rw h

  length_from : (i : ℕ) (xs : List A) → closed_up stays i + length (staying_from stays i xs) ≡ closed_up stays (i + length xs)
  unfolding staying_from
  length_from i [] = rw (add-zero (closed_up stays i), add-zero i)
  length_from i (x ∷ xs) =
      let next : suc i + length xs ≡ i + suc (length xs) = omega arith in
      let later = length_from (suc i) xs ∙ ap (closed_up stays) next in
      ⊎_elim
      (λ (h : stays i ≡ true). rw (staying_here i x xs h) (omega (arith, closed_stays stays i h)))
      (λ (h : stays i ≡ false). rw (staying_not_here i x xs h) (omega (arith, closed_goes stays i h)))
      (decide (stays i))

  pub length-staying : (xs : List A) → length (staying stays xs) ≡ closed_up stays (length xs)
  length-staying xs = let all = rw zero-add at (length_from 0 xs) in omega (arith, closed_zero stays)

  get_or-from :
      (i k j : ℕ) (xs : List A) (x : A)
      → stays (i + k) ≡ true
      → k < length xs
      → closed_up stays i + j ≡ closed_up stays (i + k)
      → get_or (staying_from stays i xs) j x ≡ get_or xs k x
  get_or-from i k j [] x h l e = absurd (nothing_below_zero l)
  get_or-from i zero j (y ∷ ys) x h l e =
      let first : j ≡ 0 = omega (arith, rw add-zero at e) in
      rw (staying_here i y ys (rw add-zero at h), first)
  get_or-from i (suc k) j (y ∷ ys) x h l e = go j e (decide (stays i)) (λ m. get_or-from (suc i) k m ys x (rw (← next) at h) (omega arith))
    where
      next : suc i + k ≡ i + suc k
      next = omega arith

      go :
          (m : ℕ)
          → closed_up stays i + m ≡ closed_up stays (i + suc k)
          → (stays i ≡ true) ⊎ (stays i ≡ false)
          → ((m : ℕ) → closed_up stays (suc i) + m ≡ closed_up stays (suc i + k) → get_or (staying_from stays (suc i) ys) m x ≡ get_or ys k x)
          → get_or (staying_from stays i (y ∷ ys)) m x ≡ get_or ys k x
      go zero f (inl t) later = absurd (omega (arith, closed_order stays i (i + suc k) t (omega arith)))
      go (suc m) f (inl t) later = rw (staying_here i y ys t) (later m (rw next (omega (arith, closed_stays stays i t))))
      go m f (inr t) later = rw (staying_not_here i y ys t) (later m (rw next (omega (arith, closed_goes stays i t))))

  pub get_or-staying : (i : ℕ) (xs : List A) (x : A) → stays i ≡ true → i < length xs → get_or (staying stays xs) (closed_up stays i) x ≡ get_or xs i x
  get_or-staying i xs x h l = get_or-from 0 i (closed_up stays i) xs x (rw zero-add h) l (rw zero-add (omega (arith, closed_zero stays)))

  staying_from_all : (i : ℕ) (xs : List A) → ((k : ℕ) → k < length xs → stays (i + k) ≡ true) → staying_from stays i xs ≡ xs
  unfolding staying_from
  staying_from_all i [] all = refl
  staying_from_all i (x ∷ xs) all =
      staying_here i x xs (rw add-zero at (all 0 (omega arith)))
      ∙ ap (λ ys. x ∷ ys) (staying_from_all (suc i) xs (λ k l. let next : suc i + k ≡ i + suc k = omega arith in rw next (all (suc k) (omega arith))))

  pub staying_all : (xs : List A) → ((k : ℕ) → k < length xs → stays k ≡ true) → staying stays xs ≡ xs
  staying_all xs all = staying_from_all 0 xs (λ k l. rw zero-add (all k l))

-- ---- the entries that stay, each written anew
module _ {A B : Type 0} (f : A → B) where
  module _ (stays : ℕ → Bool) (xs : List A) where
    written_length : length (map f (staying stays xs)) ≡ closed_up stays (length xs)
    written_length = length-map (staying stays xs) f ∙ length-staying stays xs

    pub written_new : (i : ℕ) → i < length xs → stays i ≡ true → closed_up stays i < length (map f (staying stays xs))
    written_new i l h = rw written_length (closed_order stays i (length xs) h l)

    pub written_all : (k : ℕ) → k < length (map f (staying stays xs)) → (i : ℕ) × (i < length xs) × (stays i ≡ true) × (closed_up stays i ≡ k)
    written_all k l = closed_from stays (length xs) k (rw written_length at l)

    pub written_fewer : length (map f (staying stays xs)) ≤ length xs
    written_fewer = rw written_length (closed_at_most stays (length xs))

    pub written_is : (i : ℕ) (x : A) (y : B) → i < length xs → stays i ≡ true → get_or (map f (staying stays xs)) (closed_up stays i) y ≡ f (get_or xs i x)
    written_is i x y l h =
        get_or-written f (staying stays xs) (closed_up stays i) x y (rw length-staying (closed_order stays i (length xs) h l)) ∙ ap f (get_or-staying stays i xs x h l)

-- where all stay, and what is written anew is as it was, the list is as it was
module _ {A : Type 0} (f : A → A) where
  map_same : (xs : List A) (x : A) → ((i : ℕ) → i < length xs → f (get_or xs i x) ≡ get_or xs i x) → map f xs ≡ xs
  map_same [] x same = refl
  map_same (z ∷ zs) x same = rw (same 0 (omega arith), map_same zs x (λ i l. same (suc i) (omega arith)))

  pub written_same :
      (stays : ℕ → Bool) (xs : List A) (x : A)
      → ((i : ℕ) → i < length xs → stays i ≡ true)
      → ((i : ℕ) → i < length xs → f (get_or xs i x) ≡ get_or xs i x)
      → map f (staying stays xs) ≡ xs
  written_same stays xs x all same = ap (map f) (staying_all stays xs all) ∙ map_same xs x same
