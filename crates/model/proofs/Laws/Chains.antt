-- Laws of a search by `find`, `all` or `any` over the indices below a count: each gives what the definition over indices gives, where its closure is a
-- test that changes nothing.
use Rattle.std.specs.Prelude.{Option, Some, None}
use Rattle.std.specs.declared.ops.Range.{Range}
use Prim.Native.Nat.{ℕ, zero, suc, ◌+◌, ◌≤◌, ◌<◌}
use denote.Param.Members.{Mut}
use denote.Ref.{Bor}
use mathlib.Core.Path.{◌≡◌, refl, sym, ◌∙◌, ap}
use mathlib.Core.Bool.{Bool, true, false, not}
use mathlib.Core.List.{List}
use mathlib.Core.Logic.{⊎_elim}
use mathlib.Core.Bool.{false≢true}
use native.Mathlib.Decide.{dec_lt}
use native.Mathlib.Omega.{arith}
use Rattle.std.specs.Bool.{⊤}
use Rattle.std.specs.Fn.{Called, CalledAt}
use Rattle.std.specs.Iterator.{YieldsThen}
use Rattle.std.specs.Option.{MatchOption}
use Rattle.std.specs.List.{FoldsTo, range_with_len, list_all, list_any}
use Rattle.std.proofs.iter.Yields.{nat_range_steps}
use Rattle.std.proofs.lemmas.Iterator.{first_from_Range, YieldsList-from_range}
use Rattle.std.proofs.lemmas.Iterator.Search.{all_from_yields_List, any_from_yields_List}
use Rattle.model.specs.Indices.{all_below, some_below, lowest, lowest_failing}
use Rattle.model.proofs.Laws.Booleans.{true_or_false, and_first, and_second, and_both, or_cases, or_first, or_second}
use Rattle.model.proofs.Laws.Indices.{lowest_none, lowest_nowhere, lowest_at, all_at, all_make, some_at, some_make}

same_index : (i j : ℕ) → (i < j → ⊥) → (j < i → ⊥) → i ≡ j
same_index i j h k = omega arith

-- what `find` answers
abbrev Lowest : (ℕ → Bool) → ℕ → Option ℕ → Type 0
Lowest test n r =
    MatchOption r ((k : ℕ) → 0 ≤ k → k < n → test k ≡ false) (λ i. (0 ≤ i) × (i < n) × (test i ≡ true) × ((k : ℕ) → 0 ≤ k → k < i → test k ≡ false))

lowest_is : (test : ℕ → Bool) (n : ℕ) (r : Option ℕ) → Lowest test n r → r ≡ lowest test n
lowest_is test n None h = sym (lowest_nowhere test n (λ k l. h k (omega arith) l))
lowest_is test n (Some i) h = go (lowest test n) refl
  where
    go : (f : Option ℕ) → lowest test n ≡ f → Some i ≡ f
    go None e = absurd (true_or_false (test i) h.2 (lowest_none test n e i h.1))
    go (Some j) e =
        let found = lowest_at test n j e in
        ap
        Some
        (same_index
        i
        j
        (λ l. true_or_false (test i) h.2 (found.none_lower i l))
        (λ l. true_or_false (test j) found.passes (h.3 j (omega arith) l)))

module _ {F : Type 0} {g : Mut F (Bor ℕ × Unit {0}) Bool} {s : Range ℕ} (u : Range ℕ) {f : F} {r : Option ℕ} {n : ℕ} where
  -- `find` of an index that passes
  pub lowest_from_find :
      (test : ℕ → Bool)
      → ((xs : List ℕ) × (j : F) × YieldsThen nat_range_steps s xs r u × FoldsTo (λ p x q. CalledAt g p x false q) f xs j × MatchOption r ⊤ (λ x. (h : F) × CalledAt g j x true h))
      → ((x : ℕ) (b : Bool) (q : F) → CalledAt g f x b q → (q ≡ f) × (b ≡ test x))
      → s ≡ record { start = 0; end = n }
      → r ≡ lowest test n
  lowest_from_find test ran tests range =
      let first = first_from_Range s u f r (λ x. test x ≡ true) (λ x. test x ≡ false) ran (λ x q k. sym (tests x true q k).1) (λ x q k. ((tests x false q k).0, sym (tests x false q k).1)) in
      lowest_is test n r (rw range at first)

  -- `find` of an index at which a rule fails
  pub failing_from_find :
      (rule : ℕ → Bool)
      → ((xs : List ℕ) × (j : F) × YieldsThen nat_range_steps s xs r u × FoldsTo (λ p x q. CalledAt g p x false q) f xs j × MatchOption r ⊤ (λ x. (h : F) × CalledAt g j x true h))
      → ((x : ℕ) (b : Bool) (q : F) → CalledAt g f x b q → (q ≡ f) × (b ≡ not (rule x)))
      → s ≡ record { start = 0; end = n }
      → r ≡ lowest_failing rule n
  unfolding lowest_failing
  failing_from_find rule ran tests range = lowest_from_find (λ k. not (rule k)) ran tests range

-- ---- the tests of the indices from a on, n of them, as a list
all_make_listed : (test : ℕ → Bool) (n a : ℕ) → ((k : ℕ) → a ≤ k → k < a + n → test k ≡ true) → list_all test (range_with_len a n) ≡ true
all_make_listed test zero a h = refl
all_make_listed test (suc n) a h = and_both _ _ (h a (omega arith) (omega arith)) (all_make_listed test n (a + 1) (λ k l m. h k (omega arith) (omega arith)))

all_at_listed : (test : ℕ → Bool) (n a : ℕ) → list_all test (range_with_len a n) ≡ true → (k : ℕ) → a ≤ k → k < a + n → test k ≡ true
all_at_listed test zero a e k l m = absurd (omega arith)
all_at_listed test (suc n) a e k l m = go (all_at_listed test n (a + 1) (and_second (test a) _ e) k) (dec_lt a k)
  where
    go : (a + 1 ≤ k → k < a + 1 + n → test k ≡ true) → Dec (a < k) → test k ≡ true
    go later (yes h) = later (omega arith) (omega arith)
    go later (no h) = let same : k ≡ a = omega arith in rw same (and_first (test a) _ e)

some_make_listed : (test : ℕ → Bool) (n a k : ℕ) → a ≤ k → k < a + n → test k ≡ true → list_any test (range_with_len a n) ≡ true
some_make_listed test zero a k l m e = absurd (omega arith)
some_make_listed test (suc n) a k l m e = go (λ h i. some_make_listed test n (a + 1) k h i e) (dec_lt a k)
  where
    go : (a + 1 ≤ k → k < a + 1 + n → list_any test (range_with_len (a + 1) n) ≡ true) → Dec (a < k) → list_any test (range_with_len a (suc n)) ≡ true
    go later (yes h) = or_second (test a) _ (later (omega arith) (omega arith))
    go later (no h) = let same : k ≡ a = omega arith in or_first (test a) _ (rw same at e)

some_at_listed : (test : ℕ → Bool) (n a : ℕ) → list_any test (range_with_len a n) ≡ true → (k : ℕ) × (k < a + n) × (test k ≡ true)
some_at_listed test zero a e = absurd (false≢true e)
some_at_listed test (suc n) a e =
    ⊎_elim
    (λ (h : test a ≡ true). (a, omega arith, h))
    (λ (h : list_any test (range_with_len (a + 1) n) ≡ true). let found = some_at_listed test n (a + 1) h in (found.0, omega (arith, found.1), found.2))
    (or_cases (test a) _ e)

same_truth : (a b : Bool) → (a ≡ true → b ≡ true) → (b ≡ true → a ≡ true) → a ≡ b
same_truth true b h k = sym (h refl)
same_truth false true h k = k refl
same_truth false false h k = refl

all_same : (test : ℕ → Bool) (n : ℕ) → list_all test (range_with_len 0 n) ≡ all_below test n
all_same test n =
    same_truth
    _
    _
    (λ e. all_make test n (λ k l. all_at_listed test n 0 e k (omega arith) (omega arith)))
    (λ e. all_make_listed test n 0 (λ k l m. all_at test n e k (omega arith)))

some_same : (test : ℕ → Bool) (n : ℕ) → list_any test (range_with_len 0 n) ≡ some_below test n
some_same test n =
    same_truth
    _
    _
    (λ e. let found = some_at_listed test n 0 e in some_make test n found.0 (omega (arith, found.1)) found.2)
    (λ e. let found = some_at test n e in some_make_listed test n 0 found.0 (omega arith) (omega (arith, found.1)) found.2)

module _ {F : Type 0} {g : Mut F (ℕ × Unit {0}) Bool} {s : Range ℕ} (u : Range ℕ) {f : F} {r : Bool} {n : ℕ} where
  pub all_from_all :
      (test : ℕ → Bool)
      → ((xs : List ℕ) × (o : Option ℕ) × (j : F) × YieldsThen nat_range_steps s xs o u × FoldsTo (λ p x q. Called g p (x, tt) true q) f xs j × MatchOption o (r ≡ true) (λ x. (r ≡ false) × ((h : F) × Called g j (x, tt) false h)))
      → ((x : ℕ) (b : Bool) (q : F) → Called g f (x, tt) b q → (q ≡ f) × (b ≡ test x))
      → s ≡ record { start = 0; end = n }
      → r ≡ all_below test n
  all_from_all test ran tests range = all_from_yields_List test u f r ran (YieldsList-from_range 0 n n range (omega arith)) tests ∙ all_same test n

  pub some_from_any :
      (test : ℕ → Bool)
      → ((xs : List ℕ) × (o : Option ℕ) × (j : F) × YieldsThen nat_range_steps s xs o u × FoldsTo (λ p x q. Called g p (x, tt) false q) f xs j × MatchOption o (r ≡ false) (λ x. (r ≡ true) × ((h : F) × Called g j (x, tt) true h)))
      → ((x : ℕ) (b : Bool) (q : F) → Called g f (x, tt) b q → (q ≡ f) × (b ≡ test x))
      → s ≡ record { start = 0; end = n }
      → r ≡ some_below test n
  some_from_any test ran tests range = any_from_yields_List test u f r ran (YieldsList-from_range 0 n n range (omega arith)) tests ∙ some_same test n
