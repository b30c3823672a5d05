-- What is used once is used once under new numbers: each new user is an old one that stays and uses the same as often, so one of them uses it, and two would have done so before.
use Prim.Native.Nat.{ℕ, zero, suc, ◌+◌, ◌≤◌, ◌<◌}
use mathlib.Core.Path.{◌≡◌, refl, sym, ◌∙◌, ap, ap₂}
use mathlib.Core.Logic.{◌⊎◌, ⊎_elim, ◌≢◌}
use mathlib.Core.Bool.{Bool, true, false}
use mathlib.Core.List.{List, [], ◌∷◌, ◌++◌, map, Memᴰ}
use native.Mathlib.Omega.{arith}
use native.Mathlib.Decide.{dec_lt}
use lib.Dec.{eqb}
use borrow.Author.Tests.{eqb-true, eq-eqb}
use Rattle.model.specs.Indices.{occurrences, join_below}
use Rattle.model.proofs.Laws.Equivalences.{same_tests}
use Rattle.model.proofs.Laws.Indices.{below_suc, nothing_below_zero}

-- ---- how often a number stands in a list
pub occurrences_append : (x : ℕ) (ys zs : List ℕ) → occurrences x (ys ++ zs) ≡ occurrences x ys + occurrences x zs
unfolding occurrences
occurrences_append x [] zs = omega arith
occurrences_append x (y ∷ ys) zs = go (eqb y x) (occurrences_append x ys zs)
  where
    go :
        (b : Bool)
        → occurrences x (ys ++ zs) ≡ occurrences x ys + occurrences x zs
        → elim b [ true ↦ suc (occurrences x (ys ++ zs)) | false ↦ occurrences x (ys ++ zs) ] ≡ elim b [ true ↦ suc (occurrences x ys) | false ↦ occurrences x ys ] + occurrences x zs
    go true e = omega arith
    go false e = e

-- a number that stands there
pub occurs : {x : ℕ} {ys : List ℕ} → Memᴰ x ys → 1 ≤ occurrences x ys
unfolding occurrences
occurs {x} (Memᴰ.head {x = y} {xs = ys} e) = rw (occurrences, eq-eqb y x (sym e)) (omega arith)
occurs {x} (Memᴰ.tail {x = y} {xs = ys} h) = go (eqb y x) (occurs h)
  where
    go : (b : Bool) → 1 ≤ occurrences x ys → 1 ≤ elim b [ true ↦ suc (occurrences x ys) | false ↦ occurrences x ys ]
    go true l = omega arith
    go false l = l

-- and one that is counted
pub occurs_in : (n : ℕ) (xs : List ℕ) → 0 < occurrences n xs → Memᴰ n xs
unfolding occurrences
occurs_in n [] l = absurd (omega arith)
occurs_in n (x ∷ xs) l = go (eqb x n) refl (occurs_in n xs) l
  where
    go :
        (b : Bool)
        → eqb x n ≡ b
        → (0 < occurrences n xs → Memᴰ n xs)
        → 0 < elim b [ true ↦ suc (occurrences n xs) | false ↦ occurrences n xs ]
        → Memᴰ n (x ∷ xs)
    go true e later k = Memᴰ.head (sym (eqb-true x n e))
    go false e later k = Memᴰ.tail (later k)

-- a list under new numbers that keep x apart from the others in it
pub occurrences_map : (number : ℕ → ℕ) (x : ℕ) (ys : List ℕ) → ((y : ℕ) → Memᴰ y ys → number y ≡ number x → y ≡ x) → occurrences (number x) (map number ys) ≡ occurrences x ys
unfolding occurrences
occurrences_map number x [] apart = refl
occurrences_map number x (y ∷ ys) apart =
    let same : eqb (number y) (number x) ≡ eqb y x = same_tests (
      λ h. eq-eqb y x (apart y (Memᴰ.head refl) (eqb-true (number y) (number x) h)),
      λ h. eq-eqb (number y) (number x) (ap number (eqb-true y x h)),
    ) in
    ap₂ (λ (b : Bool) (m : ℕ). elim b [ true ↦ suc m | false ↦ m ]) same (occurrences_map number x ys (λ z h. apart z (Memᴰ.tail h)))

-- ---- in joined lists
module _ (x : ℕ) (f : ℕ → List ℕ) where
  join_none : (n : ℕ) → ((k : ℕ) → k < n → occurrences x (f k) ≡ 0) → occurrences x (join_below f n) ≡ 0
  unfolding join_below occurrences
  join_none zero h = refl
  join_none (suc n) h =
      let both = occurrences_append x (join_below f n) (f n) in
      let first = join_none n (λ k l. h k (omega arith)) in
      let last = h n (omega arith) in
      omega arith

  join_once : (n k : ℕ) → k < n → occurrences x (f k) ≡ 1 → ((j : ℕ) → j < n → j ≢ k → occurrences x (f j) ≡ 0) → occurrences x (join_below f n) ≡ 1
  unfolding join_below
  join_once zero k l one none = absurd (nothing_below_zero l)
  join_once (suc n) k l one none =
      let both = occurrences_append x (join_below f n) (f n) in
      ⊎_elim
      (λ (b : k < n).
      let first = join_once n k b one (λ j m. none j (omega arith)) in
      let last = none n (omega arith) (λ e. omega arith) in
      omega arith)
      (λ (e : k ≡ n).
      let first = join_none n (λ j m. none j (omega arith) (λ q. omega arith)) in
      let last : occurrences x (f n) ≡ 1 = rw e at one in
      omega arith)
      (below_suc l)

  join_at_least : (n k : ℕ) → k < n → occurrences x (f k) ≤ occurrences x (join_below f n)
  unfolding join_below
  join_at_least zero k l = absurd (nothing_below_zero l)
  join_at_least (suc n) k l =
      let both = occurrences_append x (join_below f n) (f n) in
      ⊎_elim
      (λ (b : k < n). let first = join_at_least n k b in omega arith)
      (λ (e : k ≡ n). let same : occurrences x (f k) ≡ occurrences x (f n) = ap (λ (i : ℕ). occurrences x (f i)) e in omega arith)
      (below_suc l)

  join_two : (n j k : ℕ) → j < k → k < n → occurrences x (f j) + occurrences x (f k) ≤ occurrences x (join_below f n)
  unfolding join_below
  join_two zero j k m l = absurd (nothing_below_zero l)
  join_two (suc n) j k m l =
      let both = occurrences_append x (join_below f n) (f n) in
      ⊎_elim
      (λ (b : k < n). let first = join_two n j k m b in omega arith)
      (λ (e : k ≡ n).
      let first = join_at_least n j (omega arith) in
      let same : occurrences x (f k) ≡ occurrences x (f n) = ap (λ (i : ℕ). occurrences x (f i)) e in
      omega arith)
      (below_suc l)

-- ---- users under new numbers
-- The users of a family, n of them, n' under their new numbers; a user that stays uses x' as often as it used x.
pub record Users (x x' : ℕ) (uses uses' : ℕ → List ℕ) (n n' : ℕ) (number : ℕ → ℕ) (Stays : ℕ → Type 0) : Type 0 where
  pub old : (k : ℕ) → Stays k → k < n
  pub new : (k : ℕ) → Stays k → number k < n'
  pub all : (m : ℕ) → m < n' → (k : ℕ) × Stays k × (number k ≡ m)
  pub same : (k : ℕ) → Stays k → occurrences x' (uses' (number k)) ≡ occurrences x (uses k)

module _ {x x' : ℕ} {uses uses' : ℕ → List ℕ} {n n' : ℕ} {number : ℕ → ℕ} {Stays : ℕ → Type 0} (users : Users x x' uses uses' n n' number Stays) where
  none_renumbered : occurrences x (join_below uses n) ≡ 0 → occurrences x' (join_below uses' n') ≡ 0
  none_renumbered e = join_none x' uses' n' at
    where
      at : (m : ℕ) → m < n' → occurrences x' (uses' m) ≡ 0
      at m l =
          let (k, stays, is) = users.all m l in
          let same = users.same k stays in
          let most = join_at_least x uses n k (users.old k stays) in
          let moved : occurrences x' (uses' (number k)) ≡ occurrences x' (uses' m) = ap (λ (i : ℕ). occurrences x' (uses' i)) is in
          omega arith

  once_renumbered : (k : ℕ) → Stays k → Memᴰ x (uses k) → occurrences x (join_below uses n) ≡ 1 → occurrences x' (join_below uses' n') ≡ 1
  once_renumbered k stays h e =
      let some = occurs h in
      let same = users.same k stays in
      let most = join_at_least x uses n k (users.old k stays) in
      join_once x' uses' n' (number k) (users.new k stays) (omega arith) others
    where
      -- two users would have been two
      apart : (j : ℕ) → Stays j → j ≢ k → occurrences x (uses j) ≡ 0
      apart j also differ = go (dec_lt j k)
        where
          go : Dec (j < k) → occurrences x (uses j) ≡ 0
          go (yes l) = let some = occurs h in let two = join_two x uses n j k l (users.old k stays) in omega arith
          go (no l) = let some = occurs h in let apart : k < j = omega (arith, differ) in let two = join_two x uses n k j apart (users.old j also) in omega arith

      others : (m : ℕ) → m < n' → m ≢ number k → occurrences x' (uses' m) ≡ 0
      others m l differ =
          let (j, also, is) = users.all m l in
          let same = users.same j also in
          let moved : occurrences x' (uses' (number j)) ≡ occurrences x' (uses' m) = ap (λ (i : ℕ). occurrences x' (uses' i)) is in
          let none = apart j also (λ q. differ (sym is ∙ ap number q)) in
          omega arith

-- ---- two families of users
module _ {x x' : ℕ} {f f' g g' : ℕ → List ℕ} {n n' m m' : ℕ} {first second : ℕ → ℕ} {F G : ℕ → Type 0} where
  pub used_renumbered :
      Users x x' f f' n n' first F
      → Users x x' g g' m m' second G
      → ((k : ℕ) × F k × Memᴰ x (f k)) ⊎ ((k : ℕ) × G k × Memᴰ x (g k))
      → occurrences x (join_below f n ++ join_below g m) ≡ 1
      → occurrences x' (join_below f' n' ++ join_below g' m') ≡ 1
  used_renumbered firsts seconds user once =
      let old = occurrences_append x (join_below f n) (join_below g m) in
      let new = occurrences_append x' (join_below f' n') (join_below g' m') in
      ⊎_elim
      (λ (u : (k : ℕ) × F k × Memᴰ x (f k)).
      let some = occurs u.2 in
      let most = join_at_least x f n u.0 (firsts.old u.0 u.1) in
      let one = once_renumbered firsts u.0 u.1 u.2 (omega arith) in
      let none = none_renumbered seconds (omega arith) in
      omega arith)
      (λ (u : (k : ℕ) × G k × Memᴰ x (g k)).
      let some = occurs u.2 in
      let most = join_at_least x g m u.0 (seconds.old u.0 u.1) in
      let one = once_renumbered seconds u.0 u.1 u.2 (omega arith) in
      let none = none_renumbered firsts (omega arith) in
      omega arith)
      user
