-- What stands in a list of charged nodes: the kit's membership, of joined lists and of what is charged unless a test holds.
use Prim.Native.Nat.{ℕ, zero, suc, ◌<◌}
use mathlib.Core.Path.{◌≡◌, refl}
use mathlib.Core.Logic.{⊎_elim}
use mathlib.Core.Bool.{Bool, true, false, true≢false}
use mathlib.Core.List.{List, [], ◌∷◌, Memᴰ}
use native.Mathlib.Omega.{arith}
use Rattle.model.specs.Indices.{join_below, join_each}
use Rattle.model.specs.Shape.{charged_unless}
use Rattle.model.proofs.Laws.Indices.{nothing_below_zero, below_suc}

module _ {A : Type 0} (f : ℕ → List A) where
  pub among_join : {x : A} (n k : ℕ) → k < n → Memᴰ x (f k) → Memᴰ x (join_below f n)
  unfolding join_below
  among_join zero k l h = absurd (nothing_below_zero l)
  among_join (suc n) k l h =
      ⊎_elim
      (λ (b : k < n). mathlib.Core.List.Memᴰ.append_left (f n) (among_join n k b h))
      (λ (e : k ≡ n). mathlib.Core.List.Memᴰ.append_right (join_below f n) (rw e at h))
      (below_suc l)

  pub join_cases : (x : A) (n : ℕ) → Memᴰ x (join_below f n) → (k : ℕ) × (k < n) × Memᴰ x (f k)
  unfolding join_below
  join_cases x zero h = absurd (mathlib.Core.List.Memᴰ.not-nil h)
  join_cases x (suc n) h =
      ⊎_elim
      (λ (b : Memᴰ x (join_below f n)). let found = join_cases x n b in let l = found.1 in (found.0, omega arith, found.2))
      (λ (e : Memᴰ x (f n)). (n, omega arith, e))
      (mathlib.Core.List.Memᴰ.append_cases (join_below f n) h)

  pub among_each : {x : A} {k : ℕ} {xs : List ℕ} → Memᴰ k xs → Memᴰ x (f k) → Memᴰ x (join_each f xs)
  unfolding join_each
  among_each {xs = []} m h = elim m [ ]
  among_each {xs = y ∷ ys} (mathlib.Core.List.Memᴰ.head e) h = mathlib.Core.List.Memᴰ.append_left (join_each f ys) (rw e at h)
  among_each {xs = y ∷ ys} (mathlib.Core.List.Memᴰ.tail m) h = mathlib.Core.List.Memᴰ.append_right (f y) (among_each m h)

  pub each_cases : (x : A) (xs : List ℕ) → Memᴰ x (join_each f xs) → (k : ℕ) × Memᴰ k xs × Memᴰ x (f k)
  unfolding join_each
  each_cases x [] h = absurd (mathlib.Core.List.Memᴰ.not-nil h)
  each_cases x (y ∷ ys) h =
      ⊎_elim
      (λ (k : Memᴰ x (f y)). (y, mathlib.Core.List.Memᴰ.head refl, k))
      (λ (k : Memᴰ x (join_each f ys)). let found = each_cases x ys k in (found.0, mathlib.Core.List.Memᴰ.tail found.1, found.2))
      (mathlib.Core.List.Memᴰ.append_cases (f y) h)

-- a node that is charged
pub charged_among : (b : Bool) (n : ℕ) → b ≡ false → Memᴰ n (charged_unless b n)
charged_among true n e = absurd (true≢false e)
charged_among false n e = mathlib.Core.List.Memᴰ.head refl

pub charged_cases : (k : ℕ) (b : Bool) (n : ℕ) → Memᴰ k (charged_unless b n) → (k ≡ n) × (b ≡ false)
charged_cases k true n h = absurd (mathlib.Core.List.Memᴰ.not-nil h)
charged_cases k false n h = (mathlib.Core.List.Memᴰ.eq_of_singleton h, refl)
