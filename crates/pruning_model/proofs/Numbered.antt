-- The numbers that are listed of a tree are those in it: its own number, and with a number those of its parts, which are lower.
use Prim.Native.Nat.{ℕ, zero, suc, ◌<◌}
use mathlib.Core.Path.{◌≡◌, refl}
use mathlib.Core.Logic.{◌↔◌, ◌⊎◌, inl, inr}
use mathlib.Core.Bool.{Bool, true, false}
use mathlib.Core.List.Memᴰ
use mathlib.Core.List.{List, [], ◌∷◌, Memᴰ}
use native.Mathlib.Omega.{arith}
use lib.Dec.{ltb}
use borrow.Author.Tests.{ltb-true}
use Rattle.model.specs.Indices.{join_each}
use Rattle.model.proofs.Laws.Among.{among_each, each_cases}
use Rattle.model.proofs.Laws.Indices.{recursively_step, only_below, only_below_at, nothing_below_zero}
use Rattle.renumbering.proofs.InTrees.{InTree, itself, part, tree_through}
use Rattle.pruning_model.specs.Pruned.{numbers_in}

module _ (parts : ℕ → List ℕ) where
  numbers_step : (n : ℕ) → numbers_in parts n ≡ n ∷ join_each (only_below [] n (numbers_in parts)) (parts n)
  numbers_step n = recursively_step [] (λ k part. k ∷ join_each part (parts k)) n

  -- what is listed below n is of a lower number
  below_cases : (n k m : ℕ) (b : Bool) → ltb k n ≡ b → Memᴰ m (only_below [] n (numbers_in parts) k) → (k < n) × Memᴰ m (numbers_in parts k)
  below_cases n k m true e h = (ltb-true k n e, rw (e, only_below) at h)
  below_cases n k m false e h = absurd (Memᴰ.not-nil {a = m} (rw (e, only_below) at h))

  numbers_cases : (n m : ℕ) → Memᴰ m (numbers_in parts n) → (m ≡ n) ⊎ ((k : ℕ) × Memᴰ k (parts n) × (k < n) × Memᴰ m (numbers_in parts k))
  numbers_cases n m h = go (Memᴰ.cases_cons (rw (numbers_step n) at h))
    where
      go :
          (m ≡ n) ⊎ Memᴰ m (join_each (only_below [] n (numbers_in parts)) (parts n))
          → (m ≡ n) ⊎ ((k : ℕ) × Memᴰ k (parts n) × (k < n) × Memᴰ m (numbers_in parts k))
      go (inl e) = inl e
      go (inr t) =
          let found = each_cases (only_below [] n (numbers_in parts)) m (parts n) t in
          let lower = below_cases n found.0 m (ltb found.0 n) refl found.2 in
          inr (found.0, found.1, lower.0, lower.1)

  numbers_self : (n : ℕ) → Memᴰ n (numbers_in parts n)
  numbers_self n = rw (numbers_step n) (Memᴰ.head refl)

  numbers_of_part : (n k m : ℕ) → Memᴰ k (parts n) → k < n → Memᴰ m (numbers_in parts k) → Memᴰ m (numbers_in parts n)
  numbers_of_part n k m p l h =
      rw
      (numbers_step n)
      (Memᴰ.tail (among_each (only_below [] n (numbers_in parts)) p (rw (only_below_at [] n k (numbers_in parts) l) h)))

  numbers_in_lem : (f n m : ℕ) → n < f → Memᴰ m (numbers_in parts n) → InTree parts n m
  numbers_in_lem zero n m l h = absurd (nothing_below_zero l)
  numbers_in_lem (suc f) n m l h = go (λ k b. numbers_in_lem f k m b) (numbers_cases n m h)
    where
      go :
          ((k : ℕ) → k < f → Memᴰ m (numbers_in parts k) → InTree parts k m)
          → (m ≡ n) ⊎ ((k : ℕ) × Memᴰ k (parts n) × (k < n) × Memᴰ m (numbers_in parts k))
          → InTree parts n m
      go lower (inl e) = rw e itself
      go lower (inr (k, p, b, t)) = tree_through parts (part itself p b) (lower k (omega arith) t)

  -- with a number its parts are listed
  numbers_part : (f n m p : ℕ) → n < f → Memᴰ m (numbers_in parts n) → Memᴰ p (parts m) → p < m → Memᴰ p (numbers_in parts n)
  numbers_part zero n m p l h k below = absurd (nothing_below_zero l)
  numbers_part (suc f) n m p l h k below = go (λ q b t. numbers_part f q m p b t k below) (numbers_cases n m h)
    where
      go :
          ((q : ℕ) → q < f → Memᴰ m (numbers_in parts q) → Memᴰ p (numbers_in parts q))
          → (m ≡ n) ⊎ ((q : ℕ) × Memᴰ q (parts n) × (q < n) × Memᴰ m (numbers_in parts q))
          → Memᴰ p (numbers_in parts n)
      go lower (inl e) = numbers_of_part n p p (rw e at k) (rw e at below) (numbers_self p)
      go lower (inr (q, own, b, t)) = numbers_of_part n q p own b (lower q (omega arith) t)

  in_numbers_lem : {n m : ℕ} → InTree parts n m → Memᴰ m (numbers_in parts n)
  in_numbers_lem {n} itself = numbers_self n
  in_numbers_lem {n} (part {m} {p} h k l) = numbers_part (suc n) n m p (omega arith) (in_numbers_lem h) k l

  pub numbers_iff : (n m : ℕ) → Memᴰ m (numbers_in parts n) ↔ InTree parts n m
  numbers_iff n m = (numbers_in_lem (suc n) n m (omega arith), in_numbers_lem)
