-- Laws of the tests over indices, the lowest index, lists by their indices and recursion over numbers (`specs/Indices.antt`).
use Rattle.std.specs.Prelude.{Option, Some, None}
use Prim.Native.Nat.{ℕ, zero, suc, ◌+◌, ◌≤◌, ◌<◌}
use mathlib.Core.Path.{◌≡◌, refl, sym, ◌∙◌, ap, fun_ext}
use mathlib.Core.Logic.{◌⊎◌, inl, inr, ⊎_elim}
use mathlib.Core.Bool.{Bool, true, false, not, cond}
use mathlib.Core.List.{List, [], ◌∷◌, ◌++◌, map}
use native.Mathlib.Omega.{arith}
use native.Mathlib.Nat.{le_refl, zero-add}
use native.Mathlib.Decide.{dec_lt}
use lib.Dec.{ltb}
use lib.ListN.{length, get_or, get_or-eq_default}
use lib.Seq.{ext_get_or}
use borrow.Author.Tests.{lt-ltb, le-ltb, ltb-true}
use Rattle.model.specs.Indices.{all_below, some_below, or_at, lowest, lowest_failing, tabulate_from, tabulate, filled_to, join_below, up_to, recursively}
use Rattle.model.proofs.Laws.Booleans.{cond_true, cond_false, and_first, and_second, and_both, or_cases, or_first, or_second, not_false, true_not, true_or_false}

-- an index below suc n is below n or is n
pub below_suc : {k n : ℕ} → k < suc n → (k < n) ⊎ (k ≡ n)
below_suc {k} {n} l = go (dec_lt k n)
  where
    go : Dec (k < n) → (k < n) ⊎ (k ≡ n)
    go (yes h) = inl h
    go (no h) = inr (omega arith)

pub nothing_below_zero : {k : ℕ} → k < zero → ⊥
nothing_below_zero l = omega arith

below_more : {k n : ℕ} → k < n → k < suc n
below_more l = omega arith

last : (n : ℕ) → n < suc n
last n = le_refl (suc n)

-- what holds at every index below n, and at n, holds below suc n
pub extend : {P : ℕ → Type 0} (n : ℕ) → ((k : ℕ) → k < n → P k) → P n → (k : ℕ) → k < suc n → P k
extend {P} n h p k l = ⊎_elim (λ (b : k < n). h k b) (λ (e : k ≡ n). rw e p) (below_suc l)

-- ---- all and some
pub all_at : (test : ℕ → Bool) (n : ℕ) → all_below test n ≡ true → (k : ℕ) → k < n → test k ≡ true
unfolding all_below
all_at test zero e k l = absurd (nothing_below_zero l)
all_at test (suc n) e k l = extend n (all_at test n (and_first _ _ e)) (and_second (all_below test n) (test n) e) k l

pub all_make : (test : ℕ → Bool) (n : ℕ) → ((k : ℕ) → k < n → test k ≡ true) → all_below test n ≡ true
unfolding all_below
all_make test zero h = refl
all_make test (suc n) h = and_both (all_below test n) (test n) (all_make test n (λ k l. h k (below_more l))) (h n (last n))

pub some_at : (test : ℕ → Bool) (n : ℕ) → some_below test n ≡ true → (k : ℕ) × (k < n) × (test k ≡ true)
unfolding some_below
some_at test zero e = absurd (true_or_false false e refl)
some_at test (suc n) e =
    ⊎_elim
    (λ (h : some_below test n ≡ true). let found = some_at test n h in (found.0, below_more found.1, found.2))
    (λ (h : test n ≡ true). (n, last n, h))
    (or_cases (some_below test n) (test n) e)

pub some_make : (test : ℕ → Bool) (n k : ℕ) → k < n → test k ≡ true → some_below test n ≡ true
unfolding some_below
some_make test zero k l t = absurd (nothing_below_zero l)
some_make test (suc n) k l t =
    ⊎_elim
    (λ (h : k < n). or_first (some_below test n) (test n) (some_make test n k h t))
    (λ (h : k ≡ n). or_second (some_below test n) (test n) (rw h at t))
    (below_suc l)

-- ---- the lowest index
at_is_nowhere : (i : ℕ) → Some i ≡ None → ⊥
at_is_nowhere i e = let z : ◌≡◌ {A = ℕ} 0 1 = cc in omega arith

or_at_nowhere : (f : Option ℕ) (b : Bool) (n : ℕ) → or_at f b n ≡ None → (f ≡ None) × (b ≡ false)
or_at_nowhere (Some i) b n e = absurd (at_is_nowhere i e)
or_at_nowhere None true n e = absurd (at_is_nowhere n e)
or_at_nowhere None false n e = (refl, refl)

-- nothing was found: no index passes
pub lowest_none : (test : ℕ → Bool) (n : ℕ) → lowest test n ≡ None → (k : ℕ) → k < n → test k ≡ false
unfolding lowest
lowest_none test zero e k l = absurd (nothing_below_zero l)
lowest_none test (suc n) e k l =
    let both = or_at_nowhere (lowest test n) (test n) n e in
    extend n (lowest_none test n both.0) both.1 k l

pub lowest_nowhere : (test : ℕ → Bool) (n : ℕ) → ((k : ℕ) → k < n → test k ≡ false) → lowest test n ≡ None
unfolding lowest
lowest_nowhere test zero h = refl
lowest_nowhere test (suc n) h = rw (lowest_nowhere test n (λ k l. h k (below_more l)), h n (last n))

-- what was found is an index that passes, and no lower one does
pub record LowestIs (test : ℕ → Bool) (n i : ℕ) : Type 0 where
  pub below : i < n
  pub passes : test i ≡ true
  pub none_lower : (k : ℕ) → k < i → test k ≡ false

lowest_step : (test : ℕ → Bool) (n i : ℕ) (f : Option ℕ) (b : Bool) → lowest test n ≡ f → test n ≡ b → ((j : ℕ) → f ≡ Some j → LowestIs test n j) → or_at f b n ≡ Some i → LowestIs test (suc n) i
lowest_step test n i (Some j) b p q earlier e =
    let same : j ≡ i = cc in
    let found = earlier i (rw same refl) in
    record { below = below_more found.below; passes = found.passes; none_lower = found.none_lower }
lowest_step test n i None true p q earlier e =
    let same : n ≡ i = cc in
    record { below = rw (← same) (last n); passes = rw (← same) q; none_lower = rw (← same) (lowest_none test n p) }
lowest_step test n i None false p q earlier e = absurd (at_is_nowhere i (sym e))

pub lowest_at : (test : ℕ → Bool) (n i : ℕ) → lowest test n ≡ Some i → LowestIs test n i
unfolding lowest
lowest_at test zero i e = absurd (at_is_nowhere i (sym e))
lowest_at test (suc n) i e = lowest_step test n i (lowest test n) (test n) refl refl (λ j h. lowest_at test n j h) e

-- some index passes: one is found
pub lowest_found : (test : ℕ → Bool) (n k : ℕ) → k < n → test k ≡ true → (i : ℕ) × (lowest test n ≡ Some i)
lowest_found test n k l t = go (lowest test n) refl
  where
    go : (f : Option ℕ) → lowest test n ≡ f → (i : ℕ) × (lowest test n ≡ Some i)
    go (Some i) e = (i, e)
    go None e = absurd (true_or_false (test k) t (lowest_none test n e k l))

-- a rule fails nowhere: it holds at every index, and the other way round
pub failing_none : (rule : ℕ → Bool) (n : ℕ) → lowest_failing rule n ≡ None → (k : ℕ) → k < n → rule k ≡ true
unfolding lowest_failing
failing_none rule n e k l = not_false (rule k) (lowest_none (λ i. not (rule i)) n e k l)

pub failing_nowhere : (rule : ℕ → Bool) (n : ℕ) → ((k : ℕ) → k < n → rule k ≡ true) → lowest_failing rule n ≡ None
unfolding lowest_failing
failing_nowhere rule n h = lowest_nowhere (λ i. not (rule i)) n (λ k l. true_not (rule k) (h k l))

-- what a rule's lowest failure is below the count
pub lowest_failing_below : (rule : ℕ → Bool) (n i : ℕ) → lowest_failing rule n ≡ Some i → i < n
unfolding lowest_failing
lowest_failing_below rule n i e = (lowest_at (λ k. not (rule k)) n i e).below

-- ---- lists by their indices
module _ {A : Type 0} where
  pub length-tabulate_from : (f : ℕ → A) (i n : ℕ) → length (tabulate_from f i n) ≡ n
  unfolding tabulate_from
  length-tabulate_from f i zero = refl
  length-tabulate_from f i (suc n) = ap suc (length-tabulate_from f (suc i) n)

  pub length-tabulate : (f : ℕ → A) (n : ℕ) → length (tabulate f n) ≡ n
  unfolding tabulate
  length-tabulate f n = length-tabulate_from f 0 n

  pub get_or-tabulate_from : (f : ℕ → A) (i n k : ℕ) (x : A) → k < n → get_or (tabulate_from f i n) k x ≡ f (i + k)
  unfolding tabulate_from
  get_or-tabulate_from f i zero k x l = absurd (nothing_below_zero l)
  get_or-tabulate_from f i (suc n) zero x l = ap f (omega arith)
  get_or-tabulate_from f i (suc n) (suc k) x l = get_or-tabulate_from f (suc i) n k x (omega arith) ∙ ap f (omega arith)

  pub get_d_tabulate : (f : ℕ → A) (n k : ℕ) (x : A) → k < n → get_or (tabulate f n) k x ≡ f k
  unfolding tabulate
  get_d_tabulate f n k x l = get_or-tabulate_from f 0 n k x l ∙ ap f (zero-add k)

  module _ {B : Type 0} (g : A → B) (f : ℕ → A) where
    pub map-tabulate_from : (i n : ℕ) → map g (tabulate_from f i n) ≡ tabulate_from (λ k. g (f k)) i n
    unfolding tabulate_from
    map-tabulate_from i zero = refl
    map-tabulate_from i (suc n) = ap (λ ys. g (f i) ∷ ys) (map-tabulate_from (suc i) n)

    pub map-tabulate : (n : ℕ) → map g (tabulate f n) ≡ tabulate (λ k. g (f k)) n
    unfolding tabulate
    map-tabulate n = map-tabulate_from 0 n

  nil_append : (xs ys : List A) → xs ++ ys ≡ [] → (xs ≡ []) × (ys ≡ [])
  nil_append [] ys e = (refl, e)
  nil_append (x ∷ xs) ys e = let z : ◌≡◌ {A = ℕ} 0 1 = cc in absurd (omega arith)

  -- joined lists are empty exactly where each is
  pub join_nil : (f : ℕ → List A) (n : ℕ) → join_below f n ≡ [] → (k : ℕ) → k < n → f k ≡ []
  unfolding join_below
  join_nil f zero e k l = absurd (nothing_below_zero l)
  join_nil f (suc n) e k l = let both = nil_append (join_below f n) (f n) e in extend n (join_nil f n both.0) both.1 k l

  pub join_empty : (f : ℕ → List A) (n : ℕ) → ((k : ℕ) → k < n → f k ≡ []) → join_below f n ≡ []
  unfolding join_below
  join_empty f zero h = refl
  join_empty f (suc n) h = rw (join_empty f n (λ k l. h k (below_more l)), h n (last n))

  -- lists that agree at every index are joined to the same
  pub join_same : (f g : ℕ → List A) (n : ℕ) → ((k : ℕ) → k < n → f k ≡ g k) → join_below f n ≡ join_below g n
  unfolding join_below
  join_same f g zero h = refl
  join_same f g (suc n) h = rw (join_same f g n (λ k l. h k (below_more l)), h n (last n))

-- ---- a table that is filled from the front
module _ (f : ℕ → ℕ) (n : ℕ) (old : List ℕ) where
  pub length-filled : length (filled_to f n old) ≡ length old
  unfolding filled_to
  length-filled = length-tabulate (λ k. cond (ltb k n) (f k) (get_or old k 0)) (length old)

  filled_at : (k : ℕ) → k < length old → get_or (filled_to f n old) k 0 ≡ cond (ltb k n) (f k) (get_or old k 0)
  unfolding filled_to
  filled_at k b = get_d_tabulate (λ k. cond (ltb k n) (f k) (get_or old k 0)) (length old) k 0 b

  pub filled_before : (k : ℕ) → k < n → k < length old → get_or (filled_to f n old) k 0 ≡ f k
  filled_before k l b = filled_at k b ∙ cond_true (ltb k n) (f k) (get_or old k 0) (lt-ltb k n l)

  pub filled_behind : (k : ℕ) → n ≤ k → get_or (filled_to f n old) k 0 ≡ get_or old k 0
  filled_behind k l = go (dec_lt k (length old))
    where
      go : Dec (k < length old) → get_or (filled_to f n old) k 0 ≡ get_or old k 0
      go (yes b) = filled_at k b ∙ cond_false (ltb k n) (f k) (get_or old k 0) (le-ltb k n l)
      go (no b) =
          let long = length-filled in
          get_or-eq_default (filled_to f n old) 0 (omega arith) ∙ sym (get_or-eq_default old 0 (omega arith))

  -- a table with these entries is this one
  pub filled_is :
      (now : List ℕ)
      → length now ≡ length old
      → ((k : ℕ) → k < n → get_or now k 0 ≡ f k)
      → ((k : ℕ) → n ≤ k → get_or now k 0 ≡ get_or old k 0)
      → now ≡ filled_to f n old
  filled_is now long before behind = ext_get_or 0 now (filled_to f n old) (long ∙ sym length-filled) (λ k b. at k (omega arith) (dec_lt k n))
    where
      at : (k : ℕ) → k < length old → Dec (k < n) → get_or now k 0 ≡ get_or (filled_to f n old) k 0
      at k b (yes l) = before k l ∙ sym (filled_before k l b)
      at k b (no l) = behind k (omega arith) ∙ sym (filled_behind k (omega arith))

-- ---- recursion over numbers
module _ {A : Type 0} (none : A) where
  -- the values below n of a function, and `none` from n on
  abbrev pub only_below : ℕ → (ℕ → A) → ℕ → A
  only_below n f m = elim (ltb m n) [ true ↦ f m | false ↦ none ]

  only_below_same : (n m : ℕ) (f g : ℕ → A) (b : Bool) → ltb m n ≡ b → (m < n → f m ≡ g m) → only_below n f m ≡ only_below n g m
  only_below_same n m f g true e h = rw (e, only_below) (h (ltb-true m n e))
  only_below_same n m f g false e h = rw (e, only_below)

  -- a value from a lower number
  pub only_below_at : (n m : ℕ) (f : ℕ → A) → m < n → only_below n f m ≡ f m
  only_below_at n m f l = rw (lt-ltb m n l, only_below)

module _ {A : Type 0} (none : A) (step : ℕ → (ℕ → A) → A) where
  -- more fuel than the number changes nothing
  up_to_same : (f g n : ℕ) → n < f → n < g → up_to none step f n ≡ up_to none step g n
  unfolding up_to
  up_to_same zero g n l k = absurd (nothing_below_zero l)
  up_to_same (suc f) zero n l k = absurd (nothing_below_zero k)
  up_to_same (suc f) (suc g) n l k =
      ap
      (step n)
      (fun_ext
      (λ m. only_below_same none n m (up_to none step f) (up_to none step g) (ltb m n) refl (λ (h : m < n). up_to_same f g m (omega arith) (omega arith))))

  pub recursively_step : (n : ℕ) → recursively none step n ≡ step n (only_below none n (recursively none step))
  unfolding recursively up_to
  recursively_step n =
      ap
      (step n)
      (fun_ext
      (λ m. only_below_same none n m (up_to none step n) (λ k. up_to none step (suc k) k) (ltb m n) refl (λ (h : m < n). up_to_same n (suc m) m h (omega arith))))

  -- what holds of `none`, and of every step from values of which it holds, holds at every number
  pub recursively_all : (P : A → Type 0) → P none
      → ((n : ℕ) (below : ℕ → A) → ((m : ℕ) → P (below m)) → P (step n below))
      → (n : ℕ) → P (recursively none step n)
  unfolding recursively up_to
  recursively_all P base steps n = up_to_all (suc n) n
    where
      chosen : (b : Bool) (x : A) → P x → P (elim b [ true ↦ x | false ↦ none ])
      chosen true x p = p
      chosen false x p = base

      up_to_all : (f m : ℕ) → P (up_to none step f m)
      up_to_all zero m = base
      up_to_all (suc f) m = steps m _ (λ k. chosen (ltb k m) (up_to none step f k) (up_to_all f k))

-- ---- lists written anew, entry by entry
module _ {A B : Type 0} (f : A → B) where
  pub get_or-written : (xs : List A) (k : ℕ) (x : A) (y : B) → k < length xs → get_or (map f xs) k y ≡ f (get_or xs k x)
  get_or-written [] k x y l = absurd (nothing_below_zero l)
  get_or-written (z ∷ zs) zero x y l = refl
  get_or-written (z ∷ zs) (suc k) x y l = get_or-written zs k x y (omega arith)
