-- An argument lies within bounds for its every choice where its least label does so from below and its greatest from above: one label for a register, the bounds of a parameter in scope.
use Prim.Native.Nat.{ℕ, ◌+◌, ◌*◌, ◌-◌, ◌≤◌, ◌<◌}
use mathlib.Core.Path.{◌≡◌, refl, sym, ◌∙◌, ap}
use mathlib.Core.Logic.{◌⊎◌, inl, inr}
use mathlib.Core.Bool.{Bool, true, false, ◌&&◌, ◌||◌, not}
use mathlib.Core.List.{List}
use native.Mathlib.Omega.{arith}
use lib.Dec.{leb, ltb, eqb}
use lib.ListN.{length, get_or}
use borrow.Author.Tests.{lt-ltb, le-ltb, leb-true, eqb-true}
use mir.Syntax.{w64}
use mir.Val.{Fits}
use Rattle.model.specs.Limits.{parameter_register}
use Rattle.model.specs.Image.{Design as Table, Register, State, design_of, state_at}
use Rattle.model.specs.Lattice.{flows_to, register_label}
use Rattle.model.specs.Parameters.{scope_of, lower_bound, upper_bound, label_byte}
use Rattle.model.specs.Scopes.{is_argument, argument_kept, field_kept}
use Rattle.model.proofs.Laws.Booleans.{not_true, not_false, and_first, and_second, and_false, cond_true, cond_false, false_unless_true}
use Rattle.model.proofs.Laws.Equivalences.{same_tests, less_iff, at_most_iff, and_iff, or_iff}
use Rattle.model.proofs.Laws.Bounds.{least_label_lem, least_parameter, most_label_lem, most_parameter, argument_bounded, own_pair}
use Rattle.model.specs.Parameters.{least_label, most_label, bounded_flow}
use Rattle.model.proofs.Exact.Records.{register_iff}
use Rattle.model.proofs.Exact.Parameters.{parameters_iff}
use Rattle.design.specs.Records.{register_in, state_in}
use Rattle.design.specs.Scopes.{LabelByte}
use Rattle.design.specs.declared.Design.{Design}
use Rattle.design.proofs.Laws.{labels_count, registers_count, states_count, registers_most, register_in_lem, state_in_lem}
use Rattle.design.proofs.ResetRules.{states_few}
use Rattle.design.proofs.BoundRules.{scopes_short, parameter_number, register_label_byte, parameter_label_byte, byte_of, labels_few, bounds_of, pair_in_scope}
use Rattle.checker_scopes.specs.Scoping.{Given, Argument, Arguing, Counting}

-- ---- an argument
-- the label byte of parameter i in scope
at_least : (i : ℕ) → 16 ≤ 16 + i
at_least i = omega arith

less_label : (i : ℕ) → 16 + i - 16 ≡ i
less_label i = omega arith

-- a label is no parameter's byte
no_parameter : (x : ℕ) → x < 16 → leb 16 x ≡ false
no_parameter x l = false_unless_true (leb 16 x) (λ e. let above = leb-true 16 x e in omega arith)

and_small : (x y : ℕ) → y < 16 → (leb 16 x && eqb x y) ≡ false
and_small x y l = false_unless_true (leb 16 x && eqb x y) (λ e. let above = leb-true 16 x (and_first (leb 16 x) (eqb x y) e) in let same = eqb-true x y (and_second (leb 16 x) (eqb x y) e) in omega arith)

both : (f g : Bool) → (f && g) ≡ ((f || false) && (g || false))
both true true = refl
both true false = refl
both false g = refl

-- what a byte that is an argument is
argument_is : (d : Table) (s r : ℕ) → is_argument d s r ≡ true → (r < length d.registers) ⊎ ((parameter_register ≤ r) × (r - parameter_register < length (scope_of d s)))
unfolding is_argument
argument_is d s r h = (or_iff less_iff (and_iff at_most_iff less_iff)).0 h

module _ {image scopes : List ℕ} {x : Design} {s : ℕ} (here : Arguing image scopes x s) where
  state_below : s < length (design_of image).states
  state_below = let count = states_count here.known.describes in let state = here.state in omega arith

  few_in_scope : length (scope_of (design_of image) s) ≤ 2
  few_in_scope = (scopes_short here.parameters).short s state_below

  module _ {r : ℕ} (argument : Argument (design_of image) s r) where
    -- a register's number, or a parameter in scope
    argument_register : r < 64 → r < length (design_of image).registers
    argument_register l = go (argument_is (design_of image) s r argument.is)
      where
        go : (r < length (design_of image).registers) ⊎ ((64 ≤ r) × (r - 64 < length (scope_of (design_of image) s))) → r < length (design_of image).registers
        go (inl h) = h
        go (inr (h, k)) = absurd (omega arith)

    argument_parameter : 64 ≤ r → r - 64 < length (scope_of (design_of image) s)
    argument_parameter l = go (argument_is (design_of image) s r argument.is)
      where
        go : (r < length (design_of image).registers) ⊎ ((64 ≤ r) × (r - 64 < length (scope_of (design_of image) s))) → r - 64 < length (scope_of (design_of image) s)
        go (inl h) = let count = registers_count here.known.describes in let few = registers_most here.known.describes in absurd (omega arith)
        go (inr (h, k)) = k

    -- its label byte stands for a label
    argument_byte : LabelByte (design_of image) s (label_byte (design_of image) r)
    argument_byte = go (argument_is (design_of image) s r argument.is)
      where
        go : (r < length (design_of image).registers) ⊎ ((64 ≤ r) × (r - 64 < length (scope_of (design_of image) s))) → LabelByte (design_of image) s (label_byte (design_of image) r)
        go (inl h) =
            let count = registers_count here.known.describes in
            let few = registers_most here.known.describes in
            register_label_byte s here.known.registers (omega arith) h
        go (inr (h, k)) = parameter_label_byte s h k

    -- ---- a register's label
    pub below_count : r < 64 → r < x.registers
    below_count l = let count = registers_count here.known.describes in let below = argument_register l in omega arith

    own_label : r < 64 → (register_in image x.registers_at r).label ≡ register_label (design_of image) r
    own_label l = ap (λ (y : Register). y.label) (register_in_lem here.known.describes (below_count l))

    low_label : r < 64 → register_label (design_of image) r < 16
    low_label l =
        let few = labels_few here.known.describes in
        let label = ((register_iff (design_of image) r).0 (here.known.registers.kept r (argument_register l))).label in
        omega arith

    low_byte : r < 64 → label_byte (design_of image) r ≡ register_label (design_of image) r
    unfolding label_byte
    low_byte l = cond_true (ltb r 64) _ _ (lt-ltb r 64 l)

    pub least_register : {b : ℕ} → r < 64 → b ≡ (register_in image x.registers_at r).label → b ≡ least_label (design_of image) s (label_byte (design_of image) r)
    least_register l e = e ∙ own_label l ∙ sym (rw (low_byte l) (least_label_lem (design_of image) s (register_label (design_of image) r) (low_label l)))

    pub most_register : {b : ℕ} → r < 64 → b ≡ (register_in image x.registers_at r).label → b ≡ most_label (design_of image) s (label_byte (design_of image) r)
    most_register l e = e ∙ own_label l ∙ sym (rw (low_byte l) (most_label_lem (design_of image) s (register_label (design_of image) r) (low_label l)))

    -- ---- a parameter's bounds
    pub parameter_in_scope : 64 ≤ r → r - 64 < 2
    parameter_in_scope l = let few = few_in_scope in let inside = argument_parameter l in omega arith

    pub parameter_below : {v : ℕ} → 64 ≤ r → v ≡ get_or (scope_of (design_of image) s) (r - 64) 0 → v < 2 * x.states
    parameter_below l is =
        let number = parameter_number here.known.states here.parameters (r - 64) state_below (argument_parameter l) in
        let count = states_count here.known.describes in
        omega arith

    high_byte : 64 ≤ r → label_byte (design_of image) r ≡ 16 + (r - 64)
    unfolding label_byte
    high_byte l = cond_false (ltb r 64) _ _ (le-ltb r 64 l)

    pub least_scoped : {v b : ℕ} → 64 ≤ r → v ≡ get_or (scope_of (design_of image) s) (r - 64) 0 → b ≡ lower_bound (design_of image) v → b ≡ least_label (design_of image) s (label_byte (design_of image) r)
    least_scoped l e h =
        h
        ∙ ap (lower_bound (design_of image)) e
        ∙ sym (rw (high_byte l) (least_parameter (design_of image) s (16 + (r - 64)) (at_least (r - 64)) ∙ ap (λ (i : ℕ). lower_bound (design_of image) (get_or (scope_of (design_of image) s) i 0)) (less_label (r - 64))))

    pub most_scoped : {v b : ℕ} → 64 ≤ r → v ≡ get_or (scope_of (design_of image) s) (r - 64) 0 → b ≡ upper_bound (design_of image) v → b ≡ most_label (design_of image) s (label_byte (design_of image) r)
    most_scoped l e h =
        h
        ∙ ap (upper_bound (design_of image)) e
        ∙ sym (rw (high_byte l) (most_parameter (design_of image) s (16 + (r - 64)) (at_least (r - 64)) ∙ ap (λ (i : ℕ). upper_bound (design_of image) (get_or (scope_of (design_of image) s) i 0)) (less_label (r - 64))))

    -- both are labels
    both_labels : (least_label (design_of image) s (label_byte (design_of image) r) < length (design_of image).rows) × (most_label (design_of image) s (label_byte (design_of image) r) < length (design_of image).rows)
    both_labels = go argument_byte.is
      where
        go : (label_byte (design_of image) r < length (design_of image).rows) ⊎ ((16 ≤ label_byte (design_of image) r) × (label_byte (design_of image) r - 16 < length (scope_of (design_of image) s))) → (least_label (design_of image) s (label_byte (design_of image) r) < length (design_of image).rows) × (most_label (design_of image) s (label_byte (design_of image) r) < length (design_of image).rows)
        go (inl h) =
            let few = labels_few here.known.describes in
            (rw (least_label_lem (design_of image) s (label_byte (design_of image) r) (omega arith)) h, rw (most_label_lem (design_of image) s (label_byte (design_of image) r) (omega arith)) h)
        go (inr (h, k)) =
            let pair = pair_in_scope here.known.describes here.known.lattice here.known.states here.parameters here.state (label_byte (design_of image) r - 16) k in
            (rw (least_parameter (design_of image) s (label_byte (design_of image) r) h) pair.lower_label, rw (most_parameter (design_of image) s (label_byte (design_of image) r) h) pair.upper_label)

  -- ---- within the bounds that it is given to
  module _ {registers end : ℕ} (r : ℕ) {argument : Bool} (counted : Counting image registers s end) (told : argument ≡ (ltb r registers || (leb 64 r && ltb r end))) where
    same_argument : argument ≡ is_argument (design_of image) s r
    unfolding is_argument
    same_argument =
        told
        ∙ rw (counted.all, counted.past)
        (same_tests (
          λ h. (or_iff less_iff (and_iff at_most_iff less_iff)).1 (to ((or_iff less_iff (and_iff at_most_iff less_iff)).0 h)),
          λ h. (or_iff less_iff (and_iff at_most_iff less_iff)).1 (from ((or_iff less_iff (and_iff at_most_iff less_iff)).0 h)),
        ))
      where
        to : (r < length (design_of image).registers) ⊎ ((64 ≤ r) × (r < 64 + length (scope_of (design_of image) s))) → (r < length (design_of image).registers) ⊎ ((64 ≤ r) × (r - 64 < length (scope_of (design_of image) s)))
        to (inl h) = inl h
        to (inr (h, k)) = inr (h, omega arith)

        from : (r < length (design_of image).registers) ⊎ ((64 ≤ r) × (r - 64 < length (scope_of (design_of image) s))) → (r < length (design_of image).registers) ⊎ ((64 ≤ r) × (r < 64 + length (scope_of (design_of image) s)))
        from (inl h) = inl h
        from (inr (h, k)) = inr (h, omega arith)

    pub no_argument : (w : ℕ) → not argument ≡ true → false ≡ argument_kept (design_of image) s w r
    unfolding argument_kept
    no_argument w h = sym (and_false (is_argument (design_of image) s r) _ (sym same_argument ∙ not_true argument h))

    pub an_argument : not argument ≡ false → Argument (design_of image) s r
    an_argument h = record { is = sym same_argument ∙ not_false argument h }

    module _ {v : ℕ} (given : Given image x v) (h : not argument ≡ false) where
      label : {b l : ℕ} → b ≡ l → l < length (design_of image).rows → b < x.labels
      label e below = let count = labels_count here.known.describes in omega arith

      pub lower_label : {b : ℕ} → b ≡ lower_bound (design_of image) v → b < x.labels
      lower_label e = label e given.lower_label

      pub upper_label : {b : ℕ} → b ≡ upper_bound (design_of image) v → b < x.labels
      upper_label e = label e given.upper_label

      pub least_label_below : {b : ℕ} → b ≡ least_label (design_of image) s (label_byte (design_of image) r) → b < x.labels
      least_label_below e = label e (both_labels (an_argument h)).0

      pub most_label_below : {b : ℕ} → b ≡ most_label (design_of image) s (label_byte (design_of image) r) → b < x.labels
      most_label_below e = label e (both_labels (an_argument h)).1

      pub argument_rule :
          {lower upper least most : ℕ} {f g : Bool}
          → lower ≡ lower_bound (design_of image) v
          → upper ≡ upper_bound (design_of image) v
          → least ≡ least_label (design_of image) s (label_byte (design_of image) r)
          → most ≡ most_label (design_of image) s (label_byte (design_of image) r)
          → f ≡ flows_to (design_of image).rows lower least
          → g ≡ flows_to (design_of image).rows most upper
          → (f && g) ≡ argument_kept (design_of image) s v r
      unfolding argument_kept bounded_flow
      argument_rule el eu e m ef eg =
          let d = design_of image in
          let few = labels_few here.known.describes in
          let lower_label = given.lower_label in
          let upper_label = given.upper_label in
          let low : lower_bound d v < 16 = omega arith in
          let high : upper_bound d v < 16 = omega arith in
          let bounded = argument_bounded d s (bounds_of here.known.describes here.known.lattice here.known.states here.parameters here.state) v given.lower_label given.upper_label (byte_of (argument_byte (an_argument h))) in
          rw (ef, eg, el, eu, e, m, (an_argument h).is, bounded, most_label_lem d s (lower_bound d v) low, least_label_lem d s (upper_bound d v) high, no_parameter (lower_bound d v) low, and_small (label_byte d r) (upper_bound d v) high)
          (both (flows_to d.rows (lower_bound d v) (least_label d s (label_byte d r))) (flows_to d.rows (most_label d s (label_byte d r)) (upper_bound d v)))

  -- ---- a field of a goto to t
  module _ {t : ℕ} (state : t < length (design_of image).states) where
    pub target_below : t < x.states
    target_below = let all = states_count here.known.describes in omega arith

    pub given_fits : {j : ℕ} → j < 2 → Fits w64 (2 * t + j)
    given_fits l = let states = states_few here.known.describes in let below = target_below in record { fits = omega arith }

    module _ {count : ℕ} (e : count ≡ (state_in image x.states_at t).parameters) where
      count_is : count ≡ (state_at (design_of image) t).parameters
      count_is = e ∙ ap (λ (y : State). y.parameters) (state_in_lem here.known.describes target_below)

      pub given_to : {j : ℕ} → j < count → j < 2 → Given image x (2 * t + j)
      given_to {j} l m =
          let is = count_is in
          let pair = own_pair (design_of image) t j ((parameters_iff (design_of image) t).0 (here.parameters.kept t state)) (omega arith) in
          record {
            state = (let below = target_below in omega arith);
            lower_label = pair.lower_label;
            upper_label = pair.upper_label;
          }

      pub field_used : {j : ℕ} {b : Bool} (r : ℕ) → j < count → b ≡ argument_kept (design_of image) s (2 * t + j) r → b ≡ field_kept (design_of image) s t j r
      unfolding field_kept
      field_used {j} r l h = let is = count_is in let used : j < (state_at (design_of image) t).parameters = omega arith in h ∙ sym (cond_true (ltb j (state_at (design_of image) t).parameters) _ _ (lt-ltb j _ used))

      pub field_unused : {j : ℕ} (r : ℕ) → count ≤ j → eqb r 0 ≡ field_kept (design_of image) s t j r
      unfolding field_kept
      field_unused {j} r l = let is = count_is in let unused : (state_at (design_of image) t).parameters ≤ j = omega arith in sym (cond_false (ltb j (state_at (design_of image) t).parameters) _ _ (le-ltb j _ unused))

-- for `search`
pub ruleset label_rules = (below_count, least_register, most_register, parameter_in_scope, parameter_below, least_scoped, most_scoped)

pub ruleset argument_rules = (no_argument, an_argument, lower_label, upper_label, least_label_below, most_label_below, argument_rule)

pub ruleset field_rules = (target_below, given_fits, given_to, field_used, field_unused)
