-- New numbers, as a loop counts them: the next one is the number of those marked so far. A table of marks says of each number that it holds whether it stays, so that numbers closed up
-- by the marks are those closed up by what stays.
use Prim.Native.Nat.{ℕ, zero, suc, ◌+◌, ◌≤◌, ◌<◌}
use mathlib.Core.Path.{◌≡◌, refl, ◌∙◌, ap}
use mathlib.Core.Bool.{Bool, true, false}
use mathlib.Core.List.{List}
use native.Mathlib.Omega.{arith}
use native.Mathlib.Numerals.{add-one}
use native.Mathlib.Decide.{dec_lt}
use lib.Dec.{eqb}
use lib.ListN.{length, get_or, replicate, length-replicate, get_or-replicate, get_or-eq_default}
use Rattle.model.specs.Values.{one_or_zero}
use Rattle.model.specs.Indices.{filled_to}
use Rattle.design.specs.Resets.{Filled}
use Rattle.design.proofs.ResetRules.{filled_to_lem, filled_whole}
use Rattle.pruning_model.specs.Pruned.{closed_up}
use Rattle.pruning_model.proofs.Closing.{closed_at_most}
use Rattle.pruning_steps.specs.Marks.{Marked, is_marked, Numbered}

-- ---- one number more

-- ---- the loop
module _ (stays : ℕ → Bool) where
  pub closed_begins : 0 ≡ closed_up stays 0
  unfolding closed_up
  closed_begins = refl

  pub closed_next : (k : ℕ) {next after : ℕ} → next ≡ closed_up stays k → after ≡ next + one_or_zero (stays k) → after ≡ closed_up stays (k + 1)
  unfolding closed_up
  closed_next k e h = rw (add-one k) (h ∙ ap (λ (m : ℕ). m + one_or_zero (stays k)) e)

  -- a new number is no higher than the old one
  pub closed_fits : {k next count most : ℕ} → next ≡ closed_up stays k → k < count → count < most → next < most
  closed_fits {k} e l h = omega (arith, closed_at_most stays k)

  pub closed_whole : {k next count : ℕ} → next ≡ closed_up stays k → k ≤ count → count ≤ k → next ≡ closed_up stays count
  closed_whole {k} {next} {count} e l h = let end : k ≡ count = omega arith in rw end at e

  pub numbers_filled : {k count : ℕ} {old now : List ℕ} → Filled (closed_up stays) old k now → k ≤ count → count ≤ k → now ≡ filled_to (closed_up stays) count old
  numbers_filled so l h = filled_whole (filled_to_lem so l h)

  pub numbered_whole : {k count : ℕ} {old now : List ℕ} → Filled (closed_up stays) old k now → count ≤ length old → k ≤ count → count ≤ k → Numbered stays count now
  numbered_whole so long l h = let same = so.long in record { long = omega arith; entry = λ j b. so.done j (omega arith) }

-- ---- a fresh table
pub fresh_zero : (most k : ℕ) {table : List ℕ} → table ≡ replicate {A = ℕ} most 0 → get_or table k 0 ≡ 0
fresh_zero most k {table} e = ap (λ (t : List ℕ). get_or t k 0) e ∙ go (dec_lt k most)
  where
    go : Dec (k < most) → get_or (replicate {A = ℕ} most 0) k 0 ≡ 0
    go (yes l) = get_or-replicate {A = ℕ} most k 0 0 l
    go (no l) = get_or-eq_default (replicate {A = ℕ} most 0) 0 (omega (arith, length-replicate {A = ℕ} most 0))

-- ---- what the marks say
one_is : (b : Bool) → eqb (one_or_zero b) 1 ≡ b
one_is true = refl
one_is false = refl

module _ {stays : ℕ → Bool} {n : ℕ} {marks : List ℕ} (so : Marked stays n marks) where
  pub marked_says : (k : ℕ) → k < n → is_marked marks k ≡ stays k
  marked_says k l = rw (so.entry k l) (one_is (stays k))

  pub marked_closed : (k : ℕ) → k ≤ n → closed_up (is_marked marks) k ≡ closed_up stays k
  unfolding closed_up
  marked_closed zero l = refl
  marked_closed (suc k) l = rw (marked_closed k (omega arith), marked_says k (omega arith))

  pub marked_numbered : {numbers : List ℕ} → Numbered (is_marked marks) n numbers → Numbered stays n numbers
  marked_numbered table = record { long = table.long; entry = λ k l. table.entry k l ∙ marked_closed k (omega arith) }
