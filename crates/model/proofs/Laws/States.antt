-- Laws of the tree of states and of the target table (`specs/States.antt`, `specs/Machine.antt`): children, default children, sound targets.
use Rattle.std.specs.Prelude.{Option, Some, None}
use Prim.Native.Nat.{ℕ, ◌≤◌, ◌<◌}
use mathlib.Core.Path.{◌≡◌, refl}
use mathlib.Core.Logic.{◌⊎◌, inl, inr, ◌≢◌}
use mathlib.Core.Bool.{true, false, ◌&&◌, ◌||◌, not}
use mathlib.Core.List.{List}
use native.Mathlib.Omega.{arith}
use lib.Dec.{ltb, eqb}
use lib.ListN.{length, get_or}
use borrow.Author.Tests.{ltb-true, lt-ltb, eqb-true, eq-eqb, eqb-false, ne_eqb}
use Rattle.model.specs.Indices.{lowest, some_below}
use Rattle.model.specs.Image.{Design}
use Rattle.model.specs.States.{found_or, parent, is_child, has_child, default_target, sibling_or_self}
use Rattle.model.specs.Machine.{target_sound}
use Rattle.model.proofs.Laws.Booleans.{decide, and_first, and_second, and_both, or_cases, or_first, or_second, not_true, false_not, true_or_false}
use Rattle.model.proofs.Laws.Indices.{some_at, some_make, lowest_none, lowest_at}

-- q is a child of s
pub record ChildOf (d : Design) (s q : ℕ) : Type 0 where
  pub no_root : q ≢ 0
  pub state : q < length d.states
  pub parent_is : parent d q ≡ s

module _ (d : Design) where
  pub child_of : (s q : ℕ) → is_child d s q ≡ true → ChildOf d s q
  unfolding is_child
  child_of s q h =
      let both = and_first (not (eqb q 0) && ltb q (length d.states)) (eqb (parent d q) s) h in
      record {
        no_root = eqb-false q 0 (not_true (eqb q 0) (and_first (not (eqb q 0)) (ltb q (length d.states)) both));
        state = ltb-true q (length d.states) (and_second (not (eqb q 0)) (ltb q (length d.states)) both);
        parent_is = eqb-true (parent d q) s (and_second (not (eqb q 0) && ltb q (length d.states)) (eqb (parent d q) s) h);
      }

  pub is_child_lem : (s q : ℕ) → ChildOf d s q → is_child d s q ≡ true
  unfolding is_child
  is_child_lem s q h =
      and_both
      (not (eqb q 0) && ltb q (length d.states))
      (eqb (parent d q) s)
      (and_both (not (eqb q 0)) (ltb q (length d.states)) (false_not (eqb q 0) (ne_eqb q 0 h.no_root)) (lt-ltb q (length d.states) h.state))
      (eq-eqb (parent d q) s h.parent_is)

  pub has_child_lem : (s q : ℕ) → ChildOf d s q → has_child d s ≡ true
  unfolding has_child
  has_child_lem s q h = some_make (is_child d s) (length d.states) q h.state (is_child_lem s q h)

  -- a sibling, or the state itself, is a child of the state's parent, and the state is not the root
  pub sibling_child : (s t : ℕ) → sibling_or_self d s t ≡ true → ChildOf d (parent d s) t
  unfolding sibling_or_self
  sibling_child s t h = child_of (parent d s) t (and_second (not (eqb s 0)) (is_child d (parent d s) t) h)

  pub sibling_no_root : (s t : ℕ) → sibling_or_self d s t ≡ true → s ≢ 0
  unfolding sibling_or_self
  sibling_no_root s t h = eqb-false s 0 (not_true (eqb s 0) (and_first (not (eqb s 0)) (is_child d (parent d s) t) h))

  -- ---- default children
  default_found : (s : ℕ) (f : Option ℕ) → lowest (is_child d s) (length d.states) ≡ f → (is_child d s (found_or s f) ≡ true) ⊎ ((has_child d s ≡ false) × (found_or s f ≡ s))
  unfolding has_child
  default_found s (Some q) e = inl (lowest_at (is_child d s) (length d.states) q e).passes
  default_found s None e =
      inr
      (none (decide (some_below (is_child d s) (length d.states))), refl)
    where
      none : (some_below (is_child d s) (length d.states) ≡ true) ⊎ (some_below (is_child d s) (length d.states) ≡ false) → some_below (is_child d s) (length d.states) ≡ false
      none (inl h) =
          let found = some_at (is_child d s) (length d.states) h in
          absurd (true_or_false (is_child d s found.0) found.2 (lowest_none (is_child d s) (length d.states) e found.0 found.1))
      none (inr h) = h

  -- a default target is a child, or the state itself where it has none
  pub default_cases : (s : ℕ) → (is_child d s (default_target d s) ≡ true) ⊎ ((has_child d s ≡ false) × (default_target d s ≡ s))
  unfolding default_target
  default_cases s = default_found s (lowest (is_child d s) (length d.states)) refl

  pub default_child : (s : ℕ) → has_child d s ≡ true → ChildOf d s (default_target d s)
  default_child s h = go (default_cases s)
    where
      go : (is_child d s (default_target d s) ≡ true) ⊎ ((has_child d s ≡ false) × (default_target d s ≡ s)) → ChildOf d s (default_target d s)
      go (inl k) = child_of s (default_target d s) k
      go (inr k) = absurd (true_or_false (has_child d s) h k.0)

  -- no child is lower than the default child
  pub default_least : (s r : ℕ) → is_child d s r ≡ true → default_target d s ≤ r
  unfolding default_target
  default_least s r child = go (lowest (is_child d s) (length d.states)) refl
    where
      go : (f : Option ℕ) → lowest (is_child d s) (length d.states) ≡ f → found_or s f ≤ r
      go (Some j) e =
          let found = lowest_at (is_child d s) (length d.states) j e in
          let least : (r < j → ⊥) = (λ l. true_or_false (is_child d s r) child (found.none_lower r l)) in
          omega arith
      go None e = absurd (true_or_false (is_child d s r) child (lowest_none (is_child d s) (length d.states) e r (child_of s r child).state))

  -- the lowest of the children is the default child
  pub default_is : (s q : ℕ) → is_child d s q ≡ true → ((r : ℕ) → is_child d s r ≡ true → q ≤ r) → default_target d s ≡ q
  default_is s q child least =
      let above = least (default_target d s) (is_child_lem s (default_target d s) (default_child s (has_child_lem s q (child_of s q child)))) in
      let below = default_least s q child in
      omega arith

  -- ---- sound targets
  pub sound_child : (targets : List ℕ) (s : ℕ) → target_sound d targets s ≡ true → has_child d s ≡ true → ChildOf d s (get_or targets s 0)
  unfolding target_sound
  sound_child targets s sound h = go (or_cases (is_child d s (get_or targets s 0)) (not (has_child d s) && eqb (get_or targets s 0) s) sound)
    where
      go : (is_child d s (get_or targets s 0) ≡ true) ⊎ ((not (has_child d s) && eqb (get_or targets s 0) s) ≡ true) → ChildOf d s (get_or targets s 0)
      go (inl k) = child_of s (get_or targets s 0) k
      go (inr k) = absurd (true_or_false (has_child d s) h (not_true (has_child d s) (and_first (not (has_child d s)) (eqb (get_or targets s 0) s) k)))

  pub child_sound : (targets : List ℕ) (s : ℕ) → is_child d s (get_or targets s 0) ≡ true → target_sound d targets s ≡ true
  unfolding target_sound
  child_sound targets s h = or_first (is_child d s (get_or targets s 0)) (not (has_child d s) && eqb (get_or targets s 0) s) h

  -- a table that has the default target of s is sound there
  pub default_sound : (targets : List ℕ) (s : ℕ) → get_or targets s 0 ≡ default_target d s → target_sound d targets s ≡ true
  unfolding target_sound
  default_sound targets s e = rw e (go (default_cases s))
    where
      go : (is_child d s (default_target d s) ≡ true) ⊎ ((has_child d s ≡ false) × (default_target d s ≡ s)) → (is_child d s (default_target d s) || (not (has_child d s) && eqb (default_target d s) s)) ≡ true
      go (inl k) = or_first (is_child d s (default_target d s)) (not (has_child d s) && eqb (default_target d s) s) k
      go (inr k) =
          or_second
          (is_child d s (default_target d s))
          (not (has_child d s) && eqb (default_target d s) s)
          (and_both (not (has_child d s)) (eqb (default_target d s) s) (false_not (has_child d s) k.0) (eq-eqb (default_target d s) s k.1))
