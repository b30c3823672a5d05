-- What the searches of the verdict find: a pass over indices, a test that is charged to one place, a pass over both families of nodes, and the lowest of
-- charged numbers each find the lowest place at which the rule is broken.
use Rattle.std.specs.Prelude.{Option, Some, None}
use Prim.Native.Nat.{ℕ, min, ◌+◌, ◌≤◌, ◌<◌}
use mathlib.Core.Path.{◌≡◌, refl, sym, ap}
use mathlib.Core.Logic.{◌↔◌, ◌⊎◌, inl, inr, ⊎_elim}
use mathlib.Core.Bool.{Bool, true, false, not, cond, false≢true}
use mathlib.Core.List.Memᴰ
use mathlib.Core.List.{List, [], ◌∷◌, Memᴰ, cons-ne-nil}
use native.Mathlib.Omega.{arith}
use native.Mathlib.Decide.{dec_lt}
use lib.ListN.{length}
use Rattle.model.specs.Limits.{commands_max, expression_place}
use Rattle.model.specs.Indices.{lowest_failing, lower, lowest_of}
use Rattle.model.specs.Image.{Design}
use Rattle.model.specs.Verdict.{at_zero_unless, commands_first, lowest_node}
use Rattle.model.specs.Refusals.{at, each, each_node}
use Rattle.model.proofs.Laws.Booleans.{not_true, not_false, true_or_false}
use Rattle.model.proofs.Laws.Indices.{lowest_at, failing_none}
use Rattle.model.proofs.Laws.Found.{at_is_not_nowhere, lowest_of_iff}
use Rattle.model.proofs.Laws.Broken.{Finds}

same_place : {i j : ℕ} → Some i ≡ Some j → i ≡ j
same_place e = cc

-- a rule of each index below n, whose test says it there
pub finds_below : {rule : ℕ → Bool} {n : ℕ} {P : ℕ → Type 0} → ((k : ℕ) → k < n → (rule k ≡ true) ↔ P k) → Finds (lowest_failing rule n) (each n P)
unfolding lowest_failing
finds_below {rule} {n} f =
    record {
      nowhere = λ e k l. (f k l).0 (failing_none rule n e k l);
      broken = λ i e kept. let found = lowest_at (λ k. not (rule k)) n i e in true_or_false (rule i) ((f i found.below).1 (kept found.below)) (not_true (rule i) found.passes);
      lower = λ i e k l below. let found = lowest_at (λ k. not (rule k)) n i e in (f k below).0 (not_false (rule k) (found.none_lower k l));
    }

pub finds_each : {rule : ℕ → Bool} {n : ℕ} {P : ℕ → Type 0} → ((k : ℕ) → (rule k ≡ true) ↔ P k) → Finds (lowest_failing rule n) (each n P)
finds_each f = finds_below (λ k l. f k)

-- a test that is charged to one place
pub finds_charged : {b : Bool} {P : Type 0} (r : ℕ) → ((b ≡ true) ↔ P) → Finds (cond b None (Some r)) (at r P)
finds_charged {b = true} r f =
    record { nowhere = λ e place same. f.0 refl; broken = λ i e. absurd (at_is_not_nowhere i (sym e)); lower = λ i e. absurd (at_is_not_nowhere i (sym e)) }
finds_charged {b = false} r f =
    record {
      nowhere = λ e. absurd (at_is_not_nowhere r e);
      broken = λ i e kept. false≢true (f.1 (kept (sym (same_place e))));
      lower = λ i e k l same. let other = same_place e in absurd (omega arith);
    }

pub finds_zero : {b : Bool} {P : Type 0} → ((b ≡ true) ↔ P) → Finds (at_zero_unless b) (at 0 P)
finds_zero {b = true} f = finds_charged 0 f
finds_zero {b = false} f = finds_charged 0 f

-- ---- both families of nodes: a command's place is below every expression's
module _ (d : Design) (few : length d.commands ≤ commands_max) {P Q : ℕ → Type 0} where
  nodes_find : (f g : Option ℕ) → Finds f (each (length d.commands) P) → Finds g (each (length d.expressions) Q) → ((i : ℕ) → f ≡ Some i → i < length d.commands) → Finds (commands_first f g) (each_node d P Q)
  nodes_find (Some i) g p q inside =
      let l = inside i refl in
      record {
        nowhere = λ e. absurd (at_is_not_nowhere i e);
        broken = λ j e kept. let same = same_place e in p.broken i refl (λ below. rw same (kept.command (rw (← same) below)));
        lower = λ j e k under. let same = same_place e in record { command = p.lower i refl k (omega arith); expression = λ x is below. absurd (omega arith) };
      }
  nodes_find None (Some i) p q inside =
      record {
        nowhere = λ e. absurd (at_is_not_nowhere (expression_place + i) e);
        broken = λ j e kept. q.broken i refl (λ below. kept.expression i (sym (same_place e)) below);
        lower = λ j e k under. let same = same_place e in record { command = p.nowhere refl k; expression = λ x is below. q.lower i refl x (omega arith) below };
      }
  nodes_find None None p q inside =
      record {
        nowhere = λ e k. record { command = p.nowhere refl k; expression = λ x is. q.nowhere refl x };
        broken = λ j e. absurd (at_is_not_nowhere j (sym e));
        lower = λ j e. absurd (at_is_not_nowhere j (sym e));
      }

  pub finds_node : {command expression : ℕ → Bool} → ((n : ℕ) → (command n ≡ true) ↔ P n) → ((n : ℕ) → (expression n ≡ true) ↔ Q n) → Finds (lowest_node d command expression) (each_node d P Q)
  unfolding lowest_node lowest_failing
  finds_node {command} {expression} f g =
      nodes_find
      (lowest_failing command (length d.commands))
      (lowest_failing expression (length d.expressions))
      (finds_each f)
      (finds_each g)
      (λ i e. (lowest_at (λ k. not (command k)) (length d.commands) i e).below)

-- ---- the lowest of a list
lesser : (x k i : ℕ) → min x k ≡ i → (i ≡ x) ⊎ (Some k ≡ Some i)
lesser x k i e = go (dec_lt k x)
  where
    go : Dec (k < x) → (i ≡ x) ⊎ (Some k ≡ Some i)
    go (yes l) = inr (ap Some (omega arith))
    go (no l) = inl (omega arith)

none_in_nil : (xs : List ℕ) (k : ℕ) → xs ≡ [] → Memᴰ k xs → ⊥
none_in_nil [] k e h = Memᴰ.not-nil h
none_in_nil (x ∷ xs) k e h = cons-ne-nil _ _ e

-- it is a number of the list, and no number of the list is lower
pub lowest_among : (xs : List ℕ) (i : ℕ) → lowest_of xs ≡ Some i → Memᴰ i xs × ((k : ℕ) → Memᴰ k xs → i ≤ k)
unfolding lowest_of
lowest_among [] i e = absurd (at_is_not_nowhere i (sym e))
lowest_among (x ∷ xs) i e = go (lowest_of xs) refl (λ j h. lowest_among xs j h) e
  where
    go :
        (f : Option ℕ)
        → lowest_of xs ≡ f
        → ((j : ℕ) → lowest_of xs ≡ Some j → Memᴰ j xs × ((k : ℕ) → Memᴰ k xs → j ≤ k))
        → lower (Some x) f ≡ Some i
        → Memᴰ i (x ∷ xs) × ((k : ℕ) → Memᴰ k (x ∷ xs) → i ≤ k)
    go None h rest e =
        let same = same_place e in (
          Memᴰ.head (sym same),
          λ k among. ⊎_elim (λ (here : k ≡ x). omega arith) (λ (there : Memᴰ k xs). absurd (none_in_nil xs k (lowest_of_iff.0 h) there)) (Memᴰ.cases_cons among),
        )
    go (Some j) h rest e =
        let same = same_place e in
        let found = rest j h in (
          ⊎_elim (λ (here : i ≡ x). Memᴰ.head here) (λ (there : Some j ≡ Some i). Memᴰ.tail (rw (← same_place there) found.0)) (lesser x j i same),
          λ k among. ⊎_elim (λ (here : k ≡ x). omega arith) (λ (there : Memᴰ k xs). let least = found.1 k there in omega arith) (Memᴰ.cases_cons among),
        )

-- numbers that are charged exactly where the rule is broken
pub finds_listed : (xs : List ℕ) {Kept : ℕ → Type 0} → ((place : ℕ) → (Memᴰ place xs → ⊥) ↔ Kept place) → Finds (lowest_of xs) Kept
finds_listed xs f =
    record {
      nowhere = λ e place. (f place).0 (λ among. none_in_nil xs place (lowest_of_iff.0 e) among);
      broken = λ i e kept. (f i).1 kept (lowest_among xs i e).0;
      lower = λ i e k l. (f k).0 (λ among. let least = (lowest_among xs i e).1 k among in omega arith);
    }
