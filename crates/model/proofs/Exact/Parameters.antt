-- Refusal 19 at a state is exact: the test of each byte says its rule, and the default child is the lowest child.
use Prim.Native.Nat.{ℕ, ◌≤◌, ◌<◌}
use mathlib.Core.Path.{◌≡◌}
use mathlib.Core.Logic.Iff
use mathlib.Core.Logic.{◌↔◌, ◌⊎◌, inl, inr, ⊎_elim}
use mathlib.Core.Bool.{Bool, true, false, ◌&&◌, ◌||◌}
use native.Mathlib.Omega.{arith}
use lib.Dec.{ltb, eqb}
use lib.ListN.{length}
use borrow.Author.Tests.{ltb-true, lt-ltb}
use Rattle.model.specs.Image.{Design, state_at}
use Rattle.model.specs.Lattice.{flows_to}
use Rattle.model.specs.States.{parent, is_child, default_target}
use Rattle.model.specs.Parameters.{pair_kept, is_default_child, takes_parameters, label_in_scope, parameters_kept}
use Rattle.model.specs.Rules.{PairKeeps, PairUnused, DefaultChild, ParametersKeep}
use Rattle.model.proofs.Laws.Booleans.{decide, true_or_false, or_first, or_second}
use Rattle.model.proofs.Laws.Equivalences.{less_iff, at_most_iff, equal_iff, refutes_iff, and_iff, and_three_iff, or_iff}
use Rattle.model.proofs.Laws.States.{child_of, default_is, default_least}

-- six tests
and_six_iff :
    {a b c x y z : Bool} {P Q R S T U : Type 0}
    → ((a ≡ true) ↔ P)
    → ((b ≡ true) ↔ Q)
    → ((c ≡ true) ↔ R)
    → ((x ≡ true) ↔ S)
    → ((y ≡ true) ↔ T)
    → ((z ≡ true) ↔ U)
    → ((a && b && c && x && y && z) ≡ true) ↔ (P × Q × R × S × T × U)
and_six_iff f g h i j k =
    let all = and_iff (and_iff (and_iff (and_three_iff f g h) i) j) k in
    (λ e. let r = all.0 e in (r.0.0.0.0, r.0.0.0.1, r.0.0.0.2, r.0.0.1, r.0.1, r.1), λ r. all.1 ((((r.0, r.1, r.2), r.3), r.4), r.5))

module _ (d : Design) where
  -- state s is the default child of some state
  pub default_child_iff : (s : ℕ) → (is_default_child d s ≡ true) ↔ ((q : ℕ) × DefaultChild d q s)
  unfolding is_default_child
  default_child_iff s =
      let tested : (is_default_child d s ≡ true) ↔ ((is_child d (parent d s) s ≡ true) × (default_target d (parent d s) ≡ s)) = and_iff (λ e. e, λ e. e) equal_iff in
      Iff.trans
      tested (
        λ h. (parent d s, record { child = h.0; lowest = λ r other. rw h.1 at (default_least d (parent d s) r other) }),
        λ (q, child).
            let above : parent d s ≡ q = (child_of d q s child.child).parent_is in
            (rw above child.child, rw above (default_is d q s child.child child.lowest)),
      )

  -- a pair that is used, and one that is not
  pair_iff :
      (j s lower upper : ℕ)
      → (pair_kept d (ltb j (state_at d s).parameters) lower upper ≡ true) ↔ ((j < (state_at d s).parameters → PairKeeps d lower upper) × ((state_at d s).parameters ≤ j → PairUnused d lower upper))
  unfolding pair_kept
  pair_iff j s lower upper = by (decide (ltb j (state_at d s).parameters))
    where
      kept : ((ltb lower (length d.rows) && ltb upper (length d.rows) && flows_to d.rows lower upper) ≡ true) ↔ PairKeeps d lower upper
      kept = Iff.trans (and_three_iff less_iff less_iff Iff.rfl) (λ h. record { lower_label = h.0; upper_label = h.1; flows = h.2 }, λ k. (k.lower_label, k.upper_label, k.flows))

      unused : ((eqb lower 0 && eqb upper 0) ≡ true) ↔ PairUnused d lower upper
      unused = Iff.trans (and_iff equal_iff equal_iff) (λ h. record { lower_zero = h.0; upper_zero = h.1 }, λ k. (k.lower_zero, k.upper_zero))

      by : (ltb j (state_at d s).parameters ≡ true) ⊎ (ltb j (state_at d s).parameters ≡ false) → (pair_kept d (ltb j (state_at d s).parameters) lower upper ≡ true) ↔ ((j < (state_at d s).parameters → PairKeeps d lower upper) × ((state_at d s).parameters ≤ j → PairUnused d lower upper))
      by (inl e) =
          let l = ltb-true j (state_at d s).parameters e in
          (λ h. (λ m. kept.0 (rw e at h), λ m. absurd (omega arith)), λ k. rw e (kept.1 (k.0 l)))
      by (inr e) =
          let no : j < (state_at d s).parameters → ⊥ = λ l. true_or_false (ltb j (state_at d s).parameters) (lt-ltb j (state_at d s).parameters l) e in
          (λ h. (λ m. absurd (no m), λ m. unused.0 (rw e at h)), λ k. rw e (unused.1 (k.1 (omega (arith, no)))))

  -- "the root and default children take none"
  abbrev IsDefault : ℕ → Type 0
  IsDefault s = (q : ℕ) × DefaultChild d q s

  takes_iff : (s : ℕ) → (takes_parameters d s ≡ true) ↔ ((s ≡ 0) ⊎ IsDefault s → ⊥)
  unfolding takes_parameters
  takes_iff s = refutes_iff (or_iff equal_iff (default_child_iff s))

  none_iff : (s : ℕ) → ((takes_parameters d s || eqb (state_at d s).parameters 0) ≡ true) ↔ ((s ≡ 0 → (state_at d s).parameters ≡ 0) × (IsDefault s → (state_at d s).parameters ≡ 0))
  none_iff s = (
    λ e.
        let either = (or_iff (takes_iff s) equal_iff).0 e in
        let none : (s ≡ 0) ⊎ IsDefault s → (state_at d s).parameters ≡ 0 = λ h. ⊎_elim (λ (k : (s ≡ 0) ⊎ IsDefault s → ⊥). absurd (k h)) (λ (k : (state_at d s).parameters ≡ 0). k) either in
        (λ z. none (inl z), λ child. none (inr child)),
    λ h. make h (decide (eqb (state_at d s).parameters 0)),
  )
    where
      make : (s ≡ 0 → (state_at d s).parameters ≡ 0) × (IsDefault s → (state_at d s).parameters ≡ 0) → (eqb (state_at d s).parameters 0 ≡ true) ⊎ (eqb (state_at d s).parameters 0 ≡ false) → (takes_parameters d s || eqb (state_at d s).parameters 0) ≡ true
      make h (inl e) = or_second (takes_parameters d s) (eqb (state_at d s).parameters 0) e
      make h (inr e) =
          let no : (state_at d s).parameters ≡ 0 → ⊥ = λ z. true_or_false (eqb (state_at d s).parameters 0) (equal_iff.1 z) e in
          or_first (takes_parameters d s) (eqb (state_at d s).parameters 0) ((takes_iff s).1 (⊎_elim (λ (z : s ≡ 0). no (h.0 z)) (λ (k : IsDefault s). no (h.1 k))))

  pub parameters_iff : (s : ℕ) → (parameters_kept d s ≡ true) ↔ ParametersKeep d s
  unfolding parameters_kept label_in_scope
  parameters_iff s =
      Iff.trans
      (and_six_iff at_most_iff (none_iff s) at_most_iff (pair_iff 0 s _ _) (pair_iff 1 s _ _) (or_iff less_iff less_iff)) (
        λ (count, none, scope, first, second, label).
            record {
              count = count;
              root_none = none.0;
              default_none = λ q child. none.1 (q, child);
              scope = scope;
              first_pair = first.0;
              first_unused = first.1;
              second_pair = second.0;
              second_unused = second.1;
              label = label;
            },
        λ k. (k.count, (k.root_none, λ child. k.default_none child.0 child.1), k.scope, (k.first_pair, k.first_unused), (k.second_pair, k.second_unused), k.label),
      )
