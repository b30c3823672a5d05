-- What a test says, both ways at once: each law gives, for a way to build a test, the statement that the test is true exactly when it holds.
use Prim.Native.Nat.{ℕ, ◌≤◌, ◌<◌}
use mathlib.Core.Path.{◌≡◌, refl, sym}
use mathlib.Core.Logic.{◌↔◌, ◌⊎◌, inl, inr, ⊎_elim}
use mathlib.Core.Bool.{Bool, true, false, ◌&&◌, ◌||◌, not, beq}
use lib.Dec.{ltb, leb, eqb}
use borrow.Author.Tests.{ltb-true, lt-ltb, leb-true, le-leb, eqb-true, eq-eqb}
use Rattle.model.specs.Indices.{all_below, some_below}
use Rattle.model.specs.Lattice.{implies}
use Rattle.model.proofs.Laws.Booleans.{true_or_false, false_unless_true, and_first, and_second, and_both, or_cases, or_first, or_second, not_true, false_not, implies_apply, implies_make, beq_same, beq_make}
use Rattle.model.proofs.Laws.Indices.{all_at, all_make, some_at, some_make}

pub less_iff : {a b : ℕ} → (ltb a b ≡ true) ↔ (a < b)
less_iff {a} {b} = (ltb-true a b, lt-ltb a b)

pub at_most_iff : {a b : ℕ} → (leb a b ≡ true) ↔ (a ≤ b)
at_most_iff {a} {b} = (leb-true a b, le-leb a b)

pub equal_iff : {a b : ℕ} → (eqb a b ≡ true) ↔ (a ≡ b)
equal_iff {a} {b} = (eqb-true a b, eq-eqb a b)

pub not_iff : {a : Bool} → (not a ≡ true) ↔ (a ≡ false)
not_iff {a} = (not_true a, false_not a)

-- a test that fails refutes what it says
pub refutes_iff : {a : Bool} {P : Type 0} → ((a ≡ true) ↔ P) → (not a ≡ true) ↔ (P → ⊥)
refutes_iff {a} f = (λ e p. true_or_false a (f.1 p) (not_true a e), λ h. false_not a (false_unless_true a (λ e. h (f.0 e))))

pub same_iff : {a b : Bool} → (beq a b ≡ true) ↔ (a ≡ b)
same_iff {a} {b} = (beq_same a b, beq_make a b)

-- tests that say the same are the same
pub same_tests : {a b : Bool} → ((a ≡ true) ↔ (b ≡ true)) → a ≡ b
same_tests {a = true} {b} f = sym (f.0 refl)
same_tests {a = false} {b = true} f = f.1 refl
same_tests {a = false} {b = false} f = refl

-- a conjunction of two, three and four tests
pub and_iff : {a b : Bool} {P Q : Type 0} → ((a ≡ true) ↔ P) → ((b ≡ true) ↔ Q) → ((a && b) ≡ true) ↔ (P × Q)
and_iff {a} {b} f g = (λ e. (f.0 (and_first a b e), g.0 (and_second a b e)), λ h. and_both a b (f.1 h.0) (g.1 h.1))

pub and_three_iff :
    {a b c : Bool} {P Q R : Type 0}
    → ((a ≡ true) ↔ P)
    → ((b ≡ true) ↔ Q)
    → ((c ≡ true) ↔ R)
    → ((a && b && c) ≡ true) ↔ (P × Q × R)
and_three_iff f g h =
    let all = and_iff (and_iff f g) h in
    (λ e. let r = all.0 e in (r.0.0, r.0.1, r.1), λ r. all.1 ((r.0, r.1), r.2))

pub and_four_iff :
    {a b c d : Bool} {P Q R S : Type 0}
    → ((a ≡ true) ↔ P)
    → ((b ≡ true) ↔ Q)
    → ((c ≡ true) ↔ R)
    → ((d ≡ true) ↔ S)
    → ((a && b && c && d) ≡ true) ↔ (P × Q × R × S)
and_four_iff f g h k =
    let all = and_iff (and_three_iff f g h) k in
    (λ e. let r = all.0 e in (r.0.0, r.0.1, r.0.2, r.1), λ r. all.1 ((r.0, r.1, r.2), r.3))

-- a disjunction
pub or_iff : {a b : Bool} {P Q : Type 0} → ((a ≡ true) ↔ P) → ((b ≡ true) ↔ Q) → ((a || b) ≡ true) ↔ (P ⊎ Q)
or_iff {a} {b} {P} {Q} f g = (
  λ e. ⊎_elim (λ (h : a ≡ true). inl (f.0 h)) (λ (h : b ≡ true). inr (g.0 h)) (or_cases a b e),
  ⊎_elim (λ (p : P). or_first a b (f.1 p)) (λ (q : Q). or_second a b (g.1 q)),
)

pub implies_iff : {a b : Bool} {P Q : Type 0} → ((a ≡ true) ↔ P) → ((b ≡ true) ↔ Q) → (implies a b ≡ true) ↔ (P → Q)
implies_iff {a} {b} f g = (λ e p. g.0 (implies_apply a b e (f.1 p)), λ h. implies_make a b (λ t. g.1 (h (f.0 t))))

pub implies_both_iff :
    {a b c : Bool} {P Q R : Type 0}
    → ((a ≡ true) ↔ P)
    → ((b ≡ true) ↔ Q)
    → ((c ≡ true) ↔ R)
    → (implies (a && b) c ≡ true) ↔ (P → Q → R)
implies_both_iff f g h =
    let both = implies_iff (and_iff f g) h in
    (λ e p q. both.0 e (p, q), λ r. both.1 (λ pq. r pq.0 pq.1))

-- every index, and some index
pub all_iff :
    {test : ℕ → Bool} {n : ℕ} {P : ℕ → Type 0}
    → ((k : ℕ) → (test k ≡ true) ↔ P k)
    → (all_below test n ≡ true) ↔ ((k : ℕ) → k < n → P k)
all_iff {test} {n} f = (λ e k l. (f k).0 (all_at test n e k l), λ h. all_make test n (λ k l. (f k).1 (h k l)))

pub some_iff :
    {test : ℕ → Bool} {n : ℕ} {P : ℕ → Type 0}
    → ((k : ℕ) → (test k ≡ true) ↔ P k)
    → (some_below test n ≡ true) ↔ ((k : ℕ) × (k < n) × P k)
some_iff {test} {n} f =
    (λ e. let found = some_at test n e in (found.0, found.1, (f found.0).0 found.2), λ h. some_make test n h.0 h.1 ((f h.0).1 h.2))
