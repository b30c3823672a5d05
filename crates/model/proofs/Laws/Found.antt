-- When nothing is found: no rule fails below a count, a list of charged numbers is empty.
use Rattle.std.specs.Prelude.{Option, Some, None}
use Prim.Native.Nat.{ℕ, ◌<◌}
use mathlib.Core.Path.{◌≡◌, refl}
use mathlib.Core.Logic.Iff
use mathlib.Core.Logic.{◌↔◌}
use mathlib.Core.Bool.{Bool, true, false, false≢true}
use mathlib.Core.List.{List, [], ◌∷◌, ◌++◌, cons-ne-nil, append-eq-nil_iff}
use native.Mathlib.Omega.{arith}
use lib.ListN.{length}
use Rattle.model.specs.Indices.{lowest_failing, lower, lowest_of, join_below}
use Rattle.model.specs.Image.{Design}
use Rattle.model.specs.Shape.{charged_unless}
use Rattle.model.specs.Verdict.{at_zero_unless, commands_first, lowest_node}
use Rattle.model.proofs.Laws.Indices.{failing_none, failing_nowhere, join_nil, join_empty}

pub at_is_not_nowhere : (i : ℕ) → Some i ≡ None → ⊥
at_is_not_nowhere i e = let z : ◌≡◌ {A = ℕ} 0 1 = cc in omega arith

pub zero_unless_iff : {b : Bool} → (at_zero_unless b ≡ None) ↔ (b ≡ true)
zero_unless_iff {b = true} = (λ e. refl, λ e. refl)
zero_unless_iff {b = false} = (λ e. absurd (at_is_not_nowhere 0 e), λ e. absurd (false≢true e))

-- a rule fails nowhere below n
pub failing_iff :
    {rule : ℕ → Bool} {n : ℕ} {P : ℕ → Type 0}
    → ((k : ℕ) → (rule k ≡ true) ↔ P k)
    → (lowest_failing rule n ≡ None) ↔ ((k : ℕ) → k < n → P k)
failing_iff {rule} {n} f = (λ e k l. (f k).0 (failing_none rule n e k l), λ h. failing_nowhere rule n (λ k l. (f k).1 (h k l)))

-- ---- both families of nodes
commands_first_iff : (f g : Option ℕ) → (commands_first f g ≡ None) ↔ ((f ≡ None) × (g ≡ None))
commands_first_iff (Some n) g = (λ e. absurd (at_is_not_nowhere _ e), λ h. absurd (at_is_not_nowhere _ h.0))
commands_first_iff None (Some n) = (λ e. absurd (at_is_not_nowhere _ e), λ h. absurd (at_is_not_nowhere _ h.1))
commands_first_iff None None = (λ e. (refl, refl), λ h. refl)

pub node_iff :
    (d : Design) {command expression : ℕ → Bool} {P Q : ℕ → Type 0}
    → ((n : ℕ) → (command n ≡ true) ↔ P n)
    → ((n : ℕ) → (expression n ≡ true) ↔ Q n)
    → (lowest_node d command expression ≡ None)
    ↔ (((n : ℕ) → n < length d.commands → P n) × ((n : ℕ) → n < length d.expressions → Q n))
unfolding lowest_node
node_iff d {command} {expression} f g =
    Iff.trans
    (commands_first_iff (lowest_failing command (length d.commands)) (lowest_failing expression (length d.expressions)))
    (Iff.and (failing_iff f) (failing_iff g))

-- ---- lists of faults
module _ {A : Type 0} where
  pub append-iff : {xs ys : List A} {P Q : Type 0} → ((xs ≡ []) ↔ P) → ((ys ≡ []) ↔ Q) → (xs ++ ys ≡ []) ↔ (P × Q)
  append-iff f g = Iff.trans append-eq-nil_iff (Iff.and f g)

  pub join_iff :
      {f : ℕ → List A} {n : ℕ} {P : ℕ → Type 0}
      → ((k : ℕ) → (f k ≡ []) ↔ P k)
      → (join_below f n ≡ []) ↔ ((k : ℕ) → k < n → P k)
  join_iff {f} {n} g = (λ e k l. (g k).0 (join_nil f n e k l), λ h. join_empty f n (λ k l. (g k).1 (h k l)))

pub charged_iff : {b : Bool} (n : ℕ) {P : Type 0} → ((b ≡ true) ↔ P) → (charged_unless b n ≡ []) ↔ P
charged_iff {b = true} n f = (λ e. f.0 refl, λ p. refl)
charged_iff {b = false} n f = (λ e. absurd (cons-ne-nil _ _ e), λ p. absurd (false≢true (f.1 p)))

lower_at : (i : ℕ) (f : Option ℕ) → lower (Some i) f ≡ None → ⊥
lower_at i (Some j) e = at_is_not_nowhere _ e
lower_at i None e = at_is_not_nowhere _ e

-- a list has no lowest number exactly where it is empty
pub lowest_of_iff : {xs : List ℕ} → (lowest_of xs ≡ None) ↔ (xs ≡ [])
unfolding lowest_of
lowest_of_iff {xs = []} = (λ e. refl, λ e. refl)
lowest_of_iff {xs = x ∷ xs} = (λ e. absurd (lower_at x (lowest_of xs) e), λ e. absurd (cons-ne-nil _ _ e))
