-- Laws of a pass that looks for the lowest index at which a rule fails: what is known before an index, and what the pass answers.
use Rattle.std.specs.Prelude.{Option, Some, None}
use Prim.Native.Nat.{ℕ, ◌+◌, ◌≤◌, ◌<◌}
use mathlib.Core.Path.{◌≡◌, refl, sym, ◌∙◌, ap}
use mathlib.Core.Bool.{Bool, true, false, not}
use native.Mathlib.Omega.{arith}
use native.Mathlib.Numerals.{add-one}
use Rattle.model.specs.Indices.{lowest_failing, all_below, some_below}
use Rattle.model.proofs.Laws.Booleans.{not_true, not_false, true_or_false, false_unless_true}
use Rattle.model.proofs.Laws.Indices.{failing_none, failing_nowhere, nothing_below_zero, extend, lowest_at, all_at, all_make, some_at, some_make}

same_index : (i j : ℕ) → (i < j → ⊥) → (j < i → ⊥) → i ≡ j
same_index i j h k = omega arith

-- Each law takes what a pass has at hand: the value b that a call gave for the rule, a test of it by `if !b`, and a count m that equals the meaning's n.

-- the rule holds at every index before i
pub record Passed (rule : ℕ → Bool) (i : ℕ) : Type 0 where
  pub holds : (k : ℕ) → k < i → rule k ≡ true

module _ {rule : ℕ → Bool} where
  pub passed_none : Passed rule 0
  passed_none = record { holds = λ k l. absurd (nothing_below_zero l) }

  pub passed_more : {i : ℕ} {b : Bool} → Passed rule i → b ≡ rule i → not b ≡ false → Passed rule (i + 1)
  passed_more {i} {b} p e h = record { holds = λ k l. extend i p.holds (sym e ∙ not_false b h) k (rw (add-one i) at l) }

  lowest_is : (n i : ℕ) → i < n → rule i ≡ false → Passed rule i → (f : Option ℕ) → lowest_failing rule n ≡ f → Some i ≡ f
  unfolding lowest_failing
  lowest_is n i l h p (Some j) e =
      let found = lowest_at (λ k. not (rule k)) n j e in
      ap
      Some
      (same_index
      i
      j
      (λ k. true_or_false (rule i) (not_false (rule i) (found.none_lower i k)) h)
      (λ k. true_or_false (rule j) (p.holds j k) (not_true (rule j) found.passes)))
  lowest_is n i l h p None e = absurd (true_or_false (rule i) (failing_none rule n e i l) h)

  -- the first index at which the rule fails is the lowest
  pub passed_fails : {m n i : ℕ} {b : Bool} → Passed rule i → i < m → m ≡ n → b ≡ rule i → not b ≡ true → Some i ≡ lowest_failing rule n
  passed_fails {m} {n} {i} {b} p l q e h = lowest_is n i (omega arith) (sym e ∙ not_true b h) p (lowest_failing rule n) refl

  -- a pass to the end finds nothing
  pub passed_all : {m n i : ℕ} → Passed rule i → m ≤ i → m ≡ n → None ≡ lowest_failing rule n
  passed_all {m} {n} {i} p l q = sym (failing_nowhere rule n (λ k h. p.holds k (omega arith)))

  -- a test of every index holds
  pub all_hold : {m n i : ℕ} → Passed rule i → m ≤ i → m ≡ n → true ≡ all_below rule n
  all_hold {m} {n} {i} p l q = sym (all_make rule n (λ k h. p.holds k (omega arith)))

-- the test fails at every index before i
pub record Missed (test : ℕ → Bool) (i : ℕ) : Type 0 where
  pub fails : (k : ℕ) → k < i → test k ≡ false

module _ {test : ℕ → Bool} where
  pub missed_none : Missed test 0
  missed_none = record { fails = λ k l. absurd (nothing_below_zero l) }

  pub missed_more : {i : ℕ} {b : Bool} → Missed test i → b ≡ test i → b ≡ false → Missed test (i + 1)
  missed_more {i} p e h = record { fails = λ k l. extend i p.fails (sym e ∙ h) k (rw (add-one i) at l) }

  -- a test of some index fails
  pub none_pass : {m n i : ℕ} → Missed test i → m ≤ i → m ≡ n → false ≡ some_below test n
  none_pass {m} {n} {i} p l q =
      sym
      (false_unless_true
      (some_below test n)
      (λ e. let found = some_at test n e in let near = found.1 in true_or_false (test found.0) found.2 (p.fails found.0 (omega arith))))

-- one index settles a test of every index, or of some
pub one_fails : (rule : ℕ → Bool) {m n i : ℕ} {b : Bool} → i < m → m ≡ n → b ≡ rule i → not b ≡ true → false ≡ all_below rule n
one_fails rule {m} {n} {i} {b} l q e h =
    sym (false_unless_true (all_below rule n) (λ k. true_or_false (rule i) (all_at rule n k i (omega arith)) (sym e ∙ not_true b h)))

pub one_passes : (test : ℕ → Bool) {m n i : ℕ} {b : Bool} → i < m → m ≡ n → b ≡ test i → b ≡ true → true ≡ some_below test n
one_passes test {m} {n} {i} l q e h = sym (some_make test n i (omega arith) (sym e ∙ h))

-- the laws of a pass, for `search`
pub ruleset pass_laws = (passed_none, passed_more, passed_fails, passed_all, all_hold, one_fails, missed_none, missed_more, one_passes, none_pass)
