-- What is in a tree, for commands and for expressions alike: its own number, and with a number its parts, which are lower. So what is used, with all that is in its tree, is closed
-- under parts, and whatever is in it is used or a part of something in it.
use Prim.Native.Nat.{ℕ, ◌≤◌, ◌<◌}
use mathlib.Core.Logic.{◌↔◌, ◌⊎◌, inl, inr}
use mathlib.Core.List.{List, Memᴰ}
use native.Mathlib.Omega.{arith}

-- m is n, or a part, with a lower number, of one that is in the tree of n
pub data InTree (parts : ℕ → List ℕ) (n : ℕ) : ℕ → Type 0 where
  itself : InTree parts n n
  part : {m p : ℕ} → InTree parts n m → Memᴰ p (parts m) → p < m → InTree parts n p

module _ (parts : ℕ → List ℕ) where
  pub tree_through : {n q m : ℕ} → InTree parts n q → InTree parts q m → InTree parts n m
  tree_through h itself = h
  tree_through h (part k p l) = part (tree_through h k) p l

  pub tree_below : {n m : ℕ} → InTree parts n m → m ≤ n
  tree_below itself = omega arith
  tree_below (part h p l) = let below = tree_below h in omega arith

-- ---- all that is in the tree of something used
pub record Held (Used : ℕ → Type 0) (parts : ℕ → List ℕ) (n : ℕ) : Type 0 where
  pub top : ℕ
  pub used : Used top
  pub tree : InTree parts top n

module _ {Used : ℕ → Type 0} {parts : ℕ → List ℕ} (Stays : ℕ → Type 0) (is : (n : ℕ) → Stays n ↔ Held Used parts n) where
  pub stays_used : {n : ℕ} → Used n → Stays n
  stays_used {n} h = (is n).1 (record { top = n; used = h; tree = itself })

  pub stays_part : {n p : ℕ} → Stays n → Memᴰ p (parts n) → p < n → Stays p
  stays_part {n} {p} h k l = let held = (is n).0 h in (is p).1 (record { top = held.top; used = held.used; tree = part held.tree k l })

  pub stays_cases : (n : ℕ) → Stays n → Used n ⊎ ((m : ℕ) × Stays m × Memᴰ n (parts m))
  stays_cases n h = go ((is n).0 h).used ((is n).0 h).tree
    where
      go : {top k : ℕ} → Used top → InTree parts top k → Used k ⊎ ((m : ℕ) × Stays m × Memᴰ k (parts m))
      go u itself = inl u
      go {top} u (part {m} {p} t k l) = inr (m, (is m).1 (record { top = top; used = u; tree = t }), k)
