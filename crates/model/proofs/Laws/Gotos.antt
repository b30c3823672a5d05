-- What a goto leaves in the target table (`cleared` and `gone_to` of `specs/Machine.antt`): below the named state everything is at its default, the parent
-- points to the named state, and what is numbered below the parent is as it was.
use Prim.Native.Nat.{ℕ, zero, suc, ◌≤◌, ◌<◌}
use mathlib.Core.Path.{◌≡◌, refl, sym, ◌∙◌}
use mathlib.Core.Logic.{◌⊎◌, inl, inr, ◌≢◌}
use mathlib.Core.Bool.{Bool, true, false, ◌&&◌, ◌||◌, not, cond}
use mathlib.Core.List.{List}
use native.Mathlib.Omega.{arith}
use native.Mathlib.Decide.{dec_le, ℕ_discrete}
use lib.Dec.{ltb, eqb}
use lib.ListN.{length, get_or, length-set}
use lib.Seq.{get_or-set_same, get_or-set_other}
use borrow.Author.Tests.{ltb-true, eqb-true, eq-eqb, ne_eqb}
use Rattle.model.specs.Image.{Design}
use Rattle.model.specs.States.{parent, default_target, within}
use Rattle.model.specs.Machine.{target_sound, cleared, gone_to}
use Rattle.model.proofs.Laws.Booleans.{decide, and_second, and_both, or_cases, or_first, or_second, or_neither, false_not, true_or_false, cond_true, cond_false}
use Rattle.model.proofs.Laws.Indices.{length-tabulate, get_d_tabulate, recursively_step, only_below, only_below_at, nothing_below_zero}
use Rattle.model.proofs.Laws.States.{ChildOf, is_child_lem, child_sound, default_sound}

module _ (d : Design) where
  -- one step of the way up from q to s
  pub within_step : (s q : ℕ) → within d s q ≡ (eqb q s || (not (eqb q 0) && only_below false q (within d s) (parent d q)))
  unfolding within
  within_step s q = recursively_step false (λ p above. eqb p s || (not (eqb p 0) && above (parent d p))) q

  pub within_self : (s : ℕ) → within d s s ≡ true
  within_self s = rw within_step (or_first (eqb s s) _ (eq-eqb s s refl))

  -- a child of a state within s is within s
  pub within_child : (s q c : ℕ) → ChildOf d q c → q < c → within d s q ≡ true → within d s c ≡ true
  within_child s q c child l h =
      let above : only_below false c (within d s) (parent d c) ≡ true = rw (child.parent_is, only_below_at false c q (within d s) l) h in
      rw (within_step s c) (or_second (eqb c s) _ (and_both (not (eqb c 0)) _ (false_not (eqb c 0) (ne_eqb c 0 child.no_root)) above))

  only_below_false : (s q p n : ℕ) → ((m : ℕ) → m < n → m < s → within d s m ≡ false) → q < suc n → q < s → (b : Bool) → ltb p q ≡ b → only_below false q (within d s) p ≡ false
  only_below_false s q p n earlier l k true e = rw (e, only_below) (earlier p (omega (arith, ltb-true p q e)) (omega (arith, ltb-true p q e)))
  only_below_false s q p n earlier l k false e = rw (e, only_below)

  and_right_false : (a b : Bool) → b ≡ false → (a && b) ≡ false
  and_right_false true b e = e
  and_right_false false b e = refl

  within_none_below : (s n q : ℕ) → q < n → q < s → within d s q ≡ false
  within_none_below s zero q l k = absurd (nothing_below_zero l)
  within_none_below s (suc n) q l k =
      rw
      (within_step s q)
      (or_neither
      (eqb q s)
      _
      (ne_eqb q s (λ e. omega arith))
      (and_right_false (not (eqb q 0)) _ (only_below_false s q (parent d q) n (within_none_below s n) l k (ltb (parent d q) q) refl)))

  -- no state numbered below s is within s
  pub within_below : (s q : ℕ) → q < s → within d s q ≡ false
  within_below s q l = within_none_below s s q l l

  pub within_above : (s q : ℕ) → within d s q ≡ true → s ≤ q
  within_above s q h = go (dec_le s q)
    where
      go : Dec (s ≤ q) → s ≤ q
      go (yes l) = l
      go (no k) = absurd (true_or_false (within d s q) h (within_below s q (omega arith)))

  -- a state within s other than s has its parent within s
  pub within_parent : (s q : ℕ) → q ≢ s → within d s q ≡ true → within d s (parent d q) ≡ true
  within_parent s q other h = go (or_cases (eqb q s) _ (rw (within_step s q) at h))
    where
      below : (b : Bool) → ltb (parent d q) q ≡ b → only_below false q (within d s) (parent d q) ≡ true → within d s (parent d q) ≡ true
      below true e k = rw (only_below_at false q (parent d q) (within d s) (ltb-true (parent d q) q e)) at k
      below false e k = let none : false ≡ true = rw (e, only_below) at k in absurd (true_or_false false none refl)

      go : (eqb q s ≡ true) ⊎ ((not (eqb q 0) && only_below false q (within d s) (parent d q)) ≡ true) → within d s (parent d q) ≡ true
      go (inl e) = absurd (other (eqb-true q s e))
      go (inr k) = below (ltb (parent d q) q) refl (and_second (not (eqb q 0)) _ k)

  -- ---- the table after a goto
  pub length-cleared : (t : ℕ) (targets : List ℕ) → length (cleared d t targets) ≡ length targets
  unfolding cleared
  length-cleared t targets = length-tabulate _ (length targets)

  pub length-gone : (t : ℕ) (targets : List ℕ) → length (gone_to d t targets) ≡ length targets
  unfolding gone_to
  length-gone t targets = length-set (cleared d t targets) (parent d t) t ∙ length-cleared t targets

  cleared_at_lem : (t : ℕ) (targets : List ℕ) (q : ℕ) → q < length targets → get_or (cleared d t targets) q 0 ≡ cond (within d t q) (default_target d q) (get_or targets q 0)
  unfolding cleared
  cleared_at_lem t targets q l = get_d_tabulate (λ q. cond (within d t q) (default_target d q) (get_or targets q 0)) (length targets) q 0 l

  -- the parent points to the named state
  pub gone_parent : (t : ℕ) (targets : List ℕ) → parent d t < length targets → get_or (gone_to d t targets) (parent d t) 0 ≡ t
  unfolding gone_to
  gone_parent t targets l = get_or-set_same (cleared d t targets) (parent d t) t 0 (rw (length-cleared t targets) l)

  pub gone_other : (t : ℕ) (targets : List ℕ) (q : ℕ) → q < length targets → q ≢ parent d t → get_or (gone_to d t targets) q 0 ≡ cond (within d t q) (default_target d q) (get_or targets q 0)
  unfolding gone_to
  gone_other t targets q l other = get_or-set_other (cleared d t targets) (parent d t) q t 0 other ∙ cleared_at_lem t targets q l

  -- the named state and all its descendants are at their defaults
  pub gone_within : (t : ℕ) (targets : List ℕ) (q : ℕ) → q < length targets → parent d t < t → within d t q ≡ true → get_or (gone_to d t targets) q 0 ≡ default_target d q
  gone_within t targets q l k h =
      let at_least : t ≤ q = within_above t q h in
      gone_other t targets q l (λ e. omega arith) ∙ cond_true (within d t q) (default_target d q) (get_or targets q 0) h

  -- what is numbered below the parent is as it was
  pub gone_below : (t : ℕ) (targets : List ℕ) (q : ℕ) → q < length targets → parent d t < t → q < parent d t → get_or (gone_to d t targets) q 0 ≡ get_or targets q 0
  gone_below t targets q l k h = gone_other t targets q l (λ e. omega arith) ∙ cond_false (within d t q) (default_target d q) (get_or targets q 0) (within_below t q (omega arith))

  -- a sound table stays sound
  pub gone_sound : (p t : ℕ) (targets : List ℕ) → ChildOf d p t → p < length targets → ((s : ℕ) → s < length targets → target_sound d targets s ≡ true) → (s : ℕ) → s < length targets → target_sound d (gone_to d t targets) s ≡ true
  unfolding target_sound
  gone_sound p t targets child lp sound s l = at_parent (ℕ_discrete s (parent d t))
    where
      unchanged : get_or (gone_to d t targets) s 0 ≡ get_or targets s 0 → target_sound d (gone_to d t targets) s ≡ true
      unchanged e = rw e (sound s l)

      elsewhere : s ≢ parent d t → (within d t s ≡ true) ⊎ (within d t s ≡ false) → target_sound d (gone_to d t targets) s ≡ true
      elsewhere other (inl h) = default_sound d (gone_to d t targets) s (gone_other t targets s l other ∙ cond_true (within d t s) (default_target d s) (get_or targets s 0) h)
      elsewhere other (inr h) = unchanged (gone_other t targets s l other ∙ cond_false (within d t s) (default_target d s) (get_or targets s 0) h)

      at_parent : Dec (s ≡ parent d t) → target_sound d (gone_to d t targets) s ≡ true
      at_parent (yes e) =
          let there : parent d t < length targets = rw child.parent_is lp in
          let points : get_or (gone_to d t targets) s 0 ≡ t = rw e (gone_parent t targets there) in
          child_sound d (gone_to d t targets) s (rw points (is_child_lem d s t (record { no_root = child.no_root; state = child.state; parent_is = sym e })))
      at_parent (no other) = elsewhere other (decide (within d t s))
