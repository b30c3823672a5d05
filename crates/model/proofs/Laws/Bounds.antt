-- "For each choice" decided by bounds (02, E8): the choice that has the upper bound for one parameter and the lower bound for all others is a choice, and
-- by transitivity every other choice passes where it does.
use Prim.Native.Nat.{ℕ, zero, suc, ◌+◌, ◌-◌, ◌*◌, ◌≤◌, ◌<◌}
use mathlib.Core.Path.{◌≡◌, refl, sym, ◌∙◌, ap, fun_ext}
use mathlib.Core.Logic.Iff
use mathlib.Core.Logic.{◌⊎◌, inl, inr}
use mathlib.Core.Bool.{Bool, true, false, ◌&&◌, ◌||◌}
use mathlib.Core.List.{List, [], ◌∷◌, map}
use native.Mathlib.Omega.{arith}
use native.Mathlib.Decide.{dec_lt}
use lib.Dec.{leb, ltb, eqb}
use lib.ListN.{length, get_or}
use borrow.Author.Tests.{ltb-true, lt-ltb, le-leb, eqb-true, eqb-false}
use Rattle.model.specs.Limits.{parameter_label, binding_length}
use Rattle.model.specs.Image.{Design, state_at}
use Rattle.model.specs.Lattice.{flows_to, all_flow_to}
use Rattle.model.specs.States.{parent}
use Rattle.model.specs.Parameters.{all_of, scope_of, lower_bound, upper_bound, within_bounds, every_choice, label_under, least_label, most_label, bounded_flow}
use Rattle.model.specs.Flow.{flows_each}
use Rattle.model.specs.Rules.{FlowsTo, IsLattice, Within, IsChoice, none_chosen, one_more, EveryChoice, StateKeeps, PairKeeps, ParametersKeep}
use Rattle.model.proofs.Laws.Booleans.{decide, and_first, and_second, and_both, or_cases, or_first, or_second, cond_true, cond_false, false_unless_true}
use Rattle.model.proofs.Laws.Equivalences.{same_tests, and_iff}
use Rattle.model.proofs.Laws.Choices.{every_choice_iff}
use Rattle.model.proofs.Laws.Scopes.{own_length, scope_root, scope_length_lem, scope_inherited, scope_own, parameter_state, parameter_place}

-- a label byte that stands for a label or for a parameter in the scope of s
pub record LabelByte (d : Design) (s x : ℕ) : Type 0 where
  pub is : (x < length d.rows) ⊎ ((parameter_label ≤ x) × (x - parameter_label < length (scope_of d s)))

abbrev pub AreLabelBytes : Design → ℕ → List ℕ → Type 0
AreLabelBytes d s [] = Unit {0}
AreLabelBytes d s (x ∷ xs) = LabelByte d s x × AreLabelBytes d s xs

-- the bounds of a scope are labels, and the lower one flows to the upper one
abbrev BoundsOf : Design → List ℕ → Type 0
BoundsOf d scope = (i : ℕ) → i < length scope → PairKeeps d (lower_bound d (get_or scope i 0)) (upper_bound d (get_or scope i 0))

pub record BoundsKept (d : Design) (s : ℕ) : Type 0 where
  pub lattice : IsLattice d.rows
  pub few : length d.rows ≤ parameter_label
  pub bounds : (i : ℕ) → i < length (scope_of d s) → PairKeeps d (lower_bound d (get_or (scope_of d s) i 0)) (upper_bound d (get_or (scope_of d s) i 0))

-- ---- two choices of a scope
module _ (d : Design) where
  -- the lower bounds
  unfoldable lowers : List ℕ → List ℕ
  lowers [] = []
  lowers (v ∷ scope) = lower_bound d v ∷ lowers scope

  -- the upper bound of parameter i, the lower bounds of all others
  unfoldable raised_at : List ℕ → ℕ → List ℕ
  raised_at [] i = []
  raised_at (v ∷ scope) zero = upper_bound d v ∷ lowers scope
  raised_at (v ∷ scope) (suc i) = lower_bound d v ∷ raised_at scope i

  module _ (lattice : IsLattice d.rows) where
    at_lower : (v : ℕ) → PairKeeps d (lower_bound d v) (upper_bound d v) → Within d v (lower_bound d v)
    at_lower v pair = record { above = lattice.reflexive _ pair.lower_label; below = pair.flows }

    at_upper : (v : ℕ) → PairKeeps d (lower_bound d v) (upper_bound d v) → Within d v (upper_bound d v)
    at_upper v pair = record { above = pair.flows; below = lattice.reflexive _ pair.upper_label }

    lowers_chosen : (scope : List ℕ) → BoundsOf d scope → IsChoice d scope (lowers scope)
    unfolding lowers
    lowers_chosen [] h = none_chosen
    lowers_chosen (v ∷ scope) h =
        one_more (h 0 (omega arith)).lower_label (at_lower v (h 0 (omega arith))) (lowers_chosen scope (λ i l. h (suc i) (omega arith)))

    raised_chosen : (scope : List ℕ) (i : ℕ) → BoundsOf d scope → IsChoice d scope (raised_at scope i)
    unfolding raised_at
    raised_chosen [] i h = none_chosen
    raised_chosen (v ∷ scope) zero h =
        one_more (h 0 (omega arith)).upper_label (at_upper v (h 0 (omega arith))) (lowers_chosen scope (λ i l. h (suc i) (omega arith)))
    raised_chosen (v ∷ scope) (suc i) h =
        one_more (h 0 (omega arith)).lower_label (at_lower v (h 0 (omega arith))) (raised_chosen scope i (λ k l. h (suc k) (omega arith)))

  lowers_at : (scope : List ℕ) (i : ℕ) → i < length scope → get_or (lowers scope) i 0 ≡ lower_bound d (get_or scope i 0)
  unfolding lowers
  lowers_at [] i l = absurd (omega arith)
  lowers_at (v ∷ scope) zero l = refl
  lowers_at (v ∷ scope) (suc i) l = lowers_at scope i (omega arith)

  raised_at_lem : (scope : List ℕ) (i : ℕ) → i < length scope → get_or (raised_at scope i) i 0 ≡ upper_bound d (get_or scope i 0)
  unfolding raised_at
  raised_at_lem [] i l = absurd (omega arith)
  raised_at_lem (v ∷ scope) zero l = refl
  raised_at_lem (v ∷ scope) (suc i) l = raised_at_lem scope i (omega arith)

  raised_elsewhere : (scope : List ℕ) (i j : ℕ) → j < length scope → (i ≡ j → ⊥) → get_or (raised_at scope i) j 0 ≡ lower_bound d (get_or scope j 0)
  unfolding raised_at
  raised_elsewhere [] i j l differ = absurd (omega arith)
  raised_elsewhere (v ∷ scope) zero zero l differ = absurd (differ refl)
  raised_elsewhere (v ∷ scope) zero (suc j) l differ = lowers_at scope j (omega arith)
  raised_elsewhere (v ∷ scope) (suc i) zero l differ = refl
  raised_elsewhere (v ∷ scope) (suc i) (suc j) l differ = raised_elsewhere scope i j (omega arith) (λ e. differ (ap suc e))

  -- what a choice has for parameter i
  pub chosen_label : (scope choice : List ℕ) → IsChoice d scope choice → (i : ℕ) → i < length scope → get_or choice i 0 < length d.rows
  chosen_label [] [] none_chosen i l = absurd (omega arith)
  chosen_label [] (label ∷ choice) c i l = elim c [ ]
  chosen_label (v ∷ scope) [] c i l = elim c [ ]
  chosen_label (v ∷ scope) (label ∷ choice) (one_more below within more) zero l = below
  chosen_label (v ∷ scope) (label ∷ choice) (one_more below within more) (suc i) l = chosen_label scope choice more i (omega arith)

  pub chosen_within : (scope choice : List ℕ) → IsChoice d scope choice → (i : ℕ) → i < length scope → Within d (get_or scope i 0) (get_or choice i 0)
  chosen_within [] [] none_chosen i l = absurd (omega arith)
  chosen_within [] (label ∷ choice) c i l = elim c [ ]
  chosen_within (v ∷ scope) [] c i l = elim c [ ]
  chosen_within (v ∷ scope) (label ∷ choice) (one_more below within more) zero l = within
  chosen_within (v ∷ scope) (label ∷ choice) (one_more below within more) (suc i) l = chosen_within scope choice more i (omega arith)

-- ---- label bytes
-- a byte below 16 stands for itself, another one for what is chosen
pub under_label : (choice : List ℕ) (x : ℕ) → x < parameter_label → label_under choice x ≡ x
unfolding label_under
under_label choice x l = cond_true (ltb x parameter_label) x (get_or choice (x - parameter_label) 0) (lt-ltb x parameter_label l)

pub under_parameter : (choice : List ℕ) (x : ℕ) → parameter_label ≤ x → label_under choice x ≡ get_or choice (x - parameter_label) 0
unfolding label_under
under_parameter choice x l = cond_false (ltb x parameter_label) x (get_or choice (x - parameter_label) 0) (false_unless_true (ltb x parameter_label) (λ e. let b = ltb-true x parameter_label e in omega arith))

module _ (d : Design) (s : ℕ) where
  pub least_label_lem : (x : ℕ) → x < parameter_label → least_label d s x ≡ x
  unfolding least_label
  least_label_lem x l = cond_true (ltb x parameter_label) _ _ (lt-ltb x parameter_label l)

  pub least_parameter : (x : ℕ) → parameter_label ≤ x → least_label d s x ≡ lower_bound d (get_or (scope_of d s) (x - parameter_label) 0)
  unfolding least_label
  least_parameter x l = cond_false (ltb x parameter_label) _ _ (false_unless_true (ltb x parameter_label) (λ e. let b = ltb-true x parameter_label e in omega arith))

  pub most_label_lem : (x : ℕ) → x < parameter_label → most_label d s x ≡ x
  unfolding most_label
  most_label_lem x l = cond_true (ltb x parameter_label) _ _ (lt-ltb x parameter_label l)

  pub most_parameter : (x : ℕ) → parameter_label ≤ x → most_label d s x ≡ upper_bound d (get_or (scope_of d s) (x - parameter_label) 0)
  unfolding most_label
  most_parameter x l = cond_false (ltb x parameter_label) _ _ (false_unless_true (ltb x parameter_label) (λ e. let b = ltb-true x parameter_label e in omega arith))

  -- a label or a parameter: what it stands for under a choice lies between its least and its greatest label, and all three are labels
  record Between (choice : List ℕ) (x : ℕ) : Type 0 where
    label : label_under choice x < length d.rows
    least : least_label d s x < length d.rows
    most : most_label d s x < length d.rows
    above : FlowsTo d.rows (least_label d s x) (label_under choice x)
    below : FlowsTo d.rows (label_under choice x) (most_label d s x)

  module _ (kept : BoundsKept d s) where
    between : (choice : List ℕ) → IsChoice d (scope_of d s) choice → (x : ℕ) → LabelByte d s x → Between choice x
    between choice chosen x byte = go byte.is
      where
        go : (x < length d.rows) ⊎ ((parameter_label ≤ x) × (x - parameter_label < length (scope_of d s))) → Between choice x
        go (inl l) =
            let few = kept.few in
            let low : x < parameter_label = omega arith in
            let itself = kept.lattice.reflexive x l in
            record {
              label = rw (under_label choice x low) l;
              least = rw (least_label_lem x low) l;
              most = rw (most_label_lem x low) l;
              above = rw (under_label choice x low, least_label_lem x low) itself;
              below = rw (under_label choice x low, most_label_lem x low) itself;
            }
        go (inr (high, inside)) =
            let pair = kept.bounds (x - parameter_label) inside in
            let within = chosen_within d (scope_of d s) choice chosen (x - parameter_label) inside in
            record {
              label = rw (under_parameter choice x high) (chosen_label d (scope_of d s) choice chosen (x - parameter_label) inside);
              least = rw (least_parameter x high) pair.lower_label;
              most = rw (most_parameter x high) pair.upper_label;
              above = rw (under_parameter choice x high, least_parameter x high) within.above;
              below = rw (under_parameter choice x high, most_parameter x high) within.below;
            }

    -- under the lower bounds a byte stands for its least label, also where another parameter is raised
    under_lowers : (y : ℕ) → LabelByte d s y → label_under (lowers d (scope_of d s)) y ≡ least_label d s y
    under_lowers y byte = go byte.is
      where
        go : (y < length d.rows) ⊎ ((parameter_label ≤ y) × (y - parameter_label < length (scope_of d s))) → label_under (lowers d (scope_of d s)) y ≡ least_label d s y
        go (inl l) = let few = kept.few in under_label _ y (omega arith) ∙ sym (least_label_lem y (omega arith))
        go (inr (high, inside)) = under_parameter _ y high ∙ lowers_at d (scope_of d s) (y - parameter_label) inside ∙ sym (least_parameter y high)

    under_raised : (x y : ℕ) → parameter_label ≤ x → (x ≡ y → ⊥) → LabelByte d s y → label_under (raised_at d (scope_of d s) (x - parameter_label)) y ≡ least_label d s y
    under_raised x y high differ byte = go byte.is
      where
        go : (y < length d.rows) ⊎ ((parameter_label ≤ y) × (y - parameter_label < length (scope_of d s))) → label_under (raised_at d (scope_of d s) (x - parameter_label)) y ≡ least_label d s y
        go (inl l) = let few = kept.few in under_label _ y (omega arith) ∙ sym (least_label_lem y (omega arith))
        go (inr (above, inside)) =
            under_parameter _ y above
            ∙ raised_elsewhere d (scope_of d s) (x - parameter_label) (y - parameter_label) inside (λ e. differ (omega (arith, e)))
            ∙ sym (least_parameter y above)

    -- ---- one flow
    pub each_bounded :
        {x y : ℕ}
        → LabelByte d s x
        → LabelByte d s y
        → every_choice d s (λ choice. flows_to d.rows (label_under choice x) (label_under choice y)) ≡ bounded_flow d s x y
    unfolding bounded_flow
    each_bounded {x} {y} byte_x byte_y =
        let each = every_choice_iff d s {test = λ choice. flows_to d.rows (label_under choice x) (label_under choice y)} {P = λ choice. FlowsTo d.rows (label_under choice x) (label_under choice y)} (λ choice. Iff.rfl) in
        same_tests (λ h. bounded (each.0 h) byte_x.is, λ h. each.1 (λ choice chosen. flowing choice chosen (or_cases (flows_to d.rows (most_label d s x) (least_label d s y)) (leb parameter_label x && eqb x y) h)))
      where
        flowing : (choice : List ℕ) → IsChoice d (scope_of d s) choice → FlowsTo d.rows (most_label d s x) (least_label d s y) ⊎ ((leb parameter_label x && eqb x y) ≡ true) → FlowsTo d.rows (label_under choice x) (label_under choice y)
        flowing choice chosen (inl f) =
            let from = between choice chosen x byte_x in
            let to = between choice chosen y byte_y in
            let half = kept.lattice.transitive (label_under choice x) (most_label d s x) (least_label d s y) from.label from.most to.least from.below f in
            kept.lattice.transitive (label_under choice x) (least_label d s y) (label_under choice y) from.label to.least to.label half to.above
        flowing choice chosen (inr both) =
            let same : x ≡ y = eqb-true x y (and_second (leb parameter_label x) (eqb x y) both) in
            let to = between choice chosen y byte_y in
            rw same (kept.lattice.reflexive (label_under choice y) to.label)

        either : Bool
        either = flows_to d.rows (most_label d s x) (least_label d s y) || (leb parameter_label x && eqb x y)

        bounded : EveryChoice d s (λ choice. FlowsTo d.rows (label_under choice x) (label_under choice y)) → (x < length d.rows) ⊎ ((parameter_label ≤ x) × (x - parameter_label < length (scope_of d s))) → either ≡ true
        bounded h (inl l) =
            let few = kept.few in
            let low : x < parameter_label = omega arith in
            let f = h (lowers d (scope_of d s)) (lowers_chosen d kept.lattice (scope_of d s) kept.bounds) in
            let source : label_under (lowers d (scope_of d s)) x ≡ most_label d s x = under_label (lowers d (scope_of d s)) x low ∙ sym (most_label_lem x low) in
            or_first _ (leb parameter_label x && eqb x y) (rw (source, under_lowers y byte_y) at f)
        bounded h (inr (high, inside)) = by (decide (eqb x y))
          where
            by : (eqb x y ≡ true) ⊎ (eqb x y ≡ false) → either ≡ true
            by (inl same) = or_second (flows_to d.rows (most_label d s x) (least_label d s y)) _ (and_both (leb parameter_label x) (eqb x y) (le-leb parameter_label x high) same)
            by (inr other) =
                let f = h (raised_at d (scope_of d s) (x - parameter_label)) (raised_chosen d kept.lattice (scope_of d s) (x - parameter_label) kept.bounds) in
                let source : label_under (raised_at d (scope_of d s) (x - parameter_label)) x ≡ most_label d s x = under_parameter _ x high ∙ raised_at_lem d (scope_of d s) (x - parameter_label) inside ∙ sym (most_parameter x high) in
                or_first _ (leb parameter_label x && eqb x y) (rw (source, under_raised x y high (eqb-false x y other) byte_y) at f)

-- ---- several flows
module _ (d : Design) (s : ℕ) where
  each_same : (f g : List ℕ → Bool) → ((choice : List ℕ) → f choice ≡ g choice) → every_choice d s f ≡ every_choice d s g
  each_same f g h = ap (every_choice d s) (fun_ext h)

  each_both : (f g : List ℕ → Bool) → every_choice d s (λ choice. f choice && g choice) ≡ (every_choice d s f && every_choice d s g)
  each_both f g =
      let first = every_choice_iff d s {test = f} {P = λ choice. f choice ≡ true} (λ choice. Iff.rfl) in
      let second = every_choice_iff d s {test = g} {P = λ choice. g choice ≡ true} (λ choice. Iff.rfl) in
      let both = every_choice_iff d s {test = λ choice. f choice && g choice} {P = λ choice. (f choice ≡ true) × (g choice ≡ true)} (λ choice. and_iff Iff.rfl Iff.rfl) in
      same_tests (
        λ h. and_both (every_choice d s f) (every_choice d s g) (first.1 (λ choice chosen. (both.0 h choice chosen).0)) (second.1 (λ choice chosen. (both.0 h choice chosen).1)),
        λ h. both.1 (λ choice chosen. (first.0 (and_first (every_choice d s f) (every_choice d s g) h) choice chosen, second.0 (and_second (every_choice d s f) (every_choice d s g) h) choice chosen)),
      )

  each_true : every_choice d s (λ choice. true) ≡ true
  each_true = (every_choice_iff d s {test = λ choice. true} {P = λ choice. Unit {0}} (λ choice. (λ h. tt, λ h. refl))).1 (λ choice chosen. tt)

  module _ (kept : BoundsKept d s) where
    pub flows_each_bounded : (from : List ℕ) {to : ℕ} → AreLabelBytes d s from → LabelByte d s to → flows_each d s from to ≡ all_of (λ x. bounded_flow d s x to) from
    unfolding flows_each all_flow_to all_of
    flows_each_bounded [] {to} bytes byte = each_true
    flows_each_bounded (x ∷ from) {to} bytes byte =
        each_both (λ choice. flows_to d.rows (label_under choice x) (label_under choice to)) (λ choice. all_flow_to d.rows (map (label_under choice) from) (label_under choice to))
        ∙ rw (each_bounded d s kept bytes.0 byte, flows_each_bounded from bytes.1 byte)

    -- an argument within bounds that are labels
    pub argument_bounded :
        (v : ℕ) {y : ℕ}
        → lower_bound d v < length d.rows
        → upper_bound d v < length d.rows
        → LabelByte d s y
        → every_choice d s (λ choice. within_bounds d v (label_under choice y)) ≡ (bounded_flow d s (lower_bound d v) y && bounded_flow d s y (upper_bound d v))
    unfolding within_bounds
    argument_bounded v {y} lower upper byte =
        let few = kept.few in
        let above = each_same (λ choice. flows_to d.rows (lower_bound d v) (label_under choice y)) (λ choice. flows_to d.rows (label_under choice (lower_bound d v)) (label_under choice y)) (λ choice. rw (under_label choice (lower_bound d v) (omega arith))) in
        let below = each_same (λ choice. flows_to d.rows (label_under choice y) (upper_bound d v)) (λ choice. flows_to d.rows (label_under choice y) (label_under choice (upper_bound d v))) (λ choice. rw (under_label choice (upper_bound d v) (omega arith))) in
        each_both (λ choice. flows_to d.rows (lower_bound d v) (label_under choice y)) (λ choice. flows_to d.rows (label_under choice y) (upper_bound d v))
        ∙ rw (above, below, each_bounded d s kept (record { is = inl lower }) byte, each_bounded d s kept byte (record { is = inl upper }))

-- ---- the bounds of an accepted design
module _ (d : Design) where
  -- the pair of a state's own parameter
  pub own_pair : (s j : ℕ) → ParametersKeep d s → j < (state_at d s).parameters → PairKeeps d (lower_bound d (binding_length * s + j)) (upper_bound d (binding_length * s + j))
  own_pair s zero kept l = rw (parameter_state s 0 (omega arith), parameter_place s 0 (omega arith)) (kept.first_pair l)
  own_pair s (suc zero) kept l = rw (parameter_state s 1 (omega arith), parameter_place s 1 (omega arith)) (kept.second_pair l)
  own_pair s (suc (suc j)) kept l = let count = kept.count in absurd (omega arith)

  module _ (states : (q : ℕ) → q < length d.states → StateKeeps d q) (parameters : (q : ℕ) → q < length d.states → ParametersKeep d q) where
    scope_pairs : (n s : ℕ) → s < n → s < length d.states → (i : ℕ) → i < length (scope_of d s) → PairKeeps d (lower_bound d (get_or (scope_of d s) i 0)) (upper_bound d (get_or (scope_of d s) i 0))
    scope_pairs zero s l state i inside = absurd (omega arith)
    scope_pairs (suc n) zero l state i inside =
        let own : i < (state_at d 0).parameters = rw (scope_root d, own_length d 0) at inside in
        let none = (parameters 0 state).root_none refl in
        absurd (omega arith)
    scope_pairs (suc n) (suc s) l state i inside =
        let lower : parent d (suc s) < suc s = (states (suc s) state).parent_below (λ e. let z : ◌≡◌ {A = ℕ} 0 1 = cc in omega arith) in
        by lower (scope_pairs n (parent d (suc s)) (omega arith) (omega arith)) (dec_lt i (length (scope_of d (parent d (suc s)))))
      where
        by : parent d (suc s) < suc s
            → ((i : ℕ) → i < length (scope_of d (parent d (suc s))) → PairKeeps d (lower_bound d (get_or (scope_of d (parent d (suc s))) i 0)) (upper_bound d (get_or (scope_of d (parent d (suc s))) i 0)))
            → Dec (i < length (scope_of d (parent d (suc s))))
            → PairKeeps d (lower_bound d (get_or (scope_of d (suc s)) i 0)) (upper_bound d (get_or (scope_of d (suc s)) i 0))
        by lower above (yes k) = rw (scope_inherited d (suc s) i lower k) (above i k)
        by lower above (no k) =
            let all = scope_length_lem d (suc s) lower in
            let place : i ≡ length (scope_of d (parent d (suc s))) + (i - length (scope_of d (parent d (suc s)))) = omega (arith, k) in
            let below : i - length (scope_of d (parent d (suc s))) < (state_at d (suc s)).parameters = omega (arith, k, all) in
            let number : get_or (scope_of d (suc s)) i 0 ≡ binding_length * suc s + (i - length (scope_of d (parent d (suc s)))) = ap (λ (k : ℕ). get_or (scope_of d (suc s)) k 0) place ∙ scope_own d (suc s) _ lower below in
            rw number (own_pair (suc s) _ (parameters (suc s) state) below)

  pub bounds_kept :
      {s : ℕ}
      → IsLattice d.rows
      → length d.rows ≤ parameter_label
      → ((q : ℕ) → q < length d.states → StateKeeps d q)
      → ((q : ℕ) → q < length d.states → ParametersKeep d q)
      → s < length d.states
      → BoundsKept d s
  bounds_kept {s} lattice few states parameters state = record { lattice = lattice; few = few; bounds = scope_pairs states parameters (suc s) s (omega arith) state }
