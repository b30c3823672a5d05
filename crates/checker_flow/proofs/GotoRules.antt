-- The label of the state that a goto names, as the goto's state has it: the two have one parent, so what the named state did not declare is in scope of both; and where
-- the label is that of an own parameter, the argument was judged.
use Prim.Native.Nat.{ℕ, ◌+◌, ◌*◌, ◌-◌, ◌≤◌, ◌<◌}
use mathlib.Core.Path.{◌≡◌, sym, ◌∙◌, ap}
use mathlib.Core.Logic.{◌⊎◌, inl, inr}
use mathlib.Core.Bool.{true, ◌&&◌, not, cond}
use mathlib.Core.List.{List}
use native.Mathlib.Omega.{arith}
use native.Mathlib.Decide.{dec_lt, ℕ_discrete}
use lib.Dec.{leb, ltb, eqb}
use lib.ListN.{length}
use borrow.Author.Tests.{lt-ltb, le-ltb, ltb-true, leb-true, eq-eqb, ne_eqb, eqb-true, eqb-false}
use Rattle.model.specs.Limits.{registers_max, parameter_register, parameter_label, binding_length}
use Rattle.model.specs.Image.{Design as Table, state_at}
use Rattle.model.specs.Lattice.{state_label}
use Rattle.model.specs.States.{parent, is_child, sibling_or_self}
use Rattle.model.specs.Parameters.{own_parameters, scope_of, label_byte}
use Rattle.model.specs.Scopes.{is_argument, argument_kept, field_kept, arguments_kept}
use Rattle.model.specs.Flow.{named_label}
use Rattle.model.specs.Labelling.{relabelled}
use Rattle.model.proofs.Laws.Booleans.{and_first, and_second, or_cases, cond_true, cond_false, not_true}
use Rattle.model.proofs.Laws.Scopes.{scope_length_lem}
use Rattle.design.specs.Kept.{StatesKept, ParametersKept}
use Rattle.design.specs.Labels.{LabelsKept}
use Rattle.design.specs.Scopes.{inherited_scope, LabelByte}
use Rattle.design.proofs.ResetRules.{parent_lower}
use Rattle.design.proofs.ScopeRules.{inherited_child}
use Rattle.design.proofs.BoundRules.{state_label_byte}
use Rattle.checker_flow.specs.Flows.{Named, label_in}
use Rattle.checker_flow.proofs.MaskRules.{label_is, label_byte_lem}

-- an argument that was judged
argument_named : (d : Table) (s t j r : ℕ) → j < (state_at d t).parameters → field_kept d s t j r ≡ true → Named d s r
unfolding field_kept argument_kept is_argument
argument_named d s t j r used kept = record { is = go (or_cases (ltb r (length d.registers)) (leb parameter_register r && ltb (r - parameter_register) (length (scope_of d s))) is) }
  where
    judged : argument_kept d s (binding_length * t + j) r ≡ true
    judged = rw (lt-ltb j (state_at d t).parameters used) at kept

    is : is_argument d s r ≡ true
    is = and_first (is_argument d s r) _ judged

    go : (ltb r (length d.registers) ≡ true) ⊎ ((leb parameter_register r && ltb (r - parameter_register) (length (scope_of d s))) ≡ true) → (r < length d.registers) ⊎ ((parameter_register ≤ r) × (r - parameter_register < length (scope_of d s)))
    go (inl h) = inl (ltb-true r (length d.registers) h)
    go (inr h) =
        inr (
          leb-true parameter_register r (and_first (leb parameter_register r) (ltb (r - parameter_register) (length (scope_of d s))) h),
          ltb-true (r - parameter_register) (length (scope_of d s)) (and_second (leb parameter_register r) (ltb (r - parameter_register) (length (scope_of d s))) h),
        )

module _
    (d : Table)
    (s t a b : ℕ)
    (states : StatesKept d)
    (parameters : ParametersKept d)
    (few : length d.rows ≤ parameter_label)
    (state : s < length d.states)
    (named : t < length d.states)
    (sibling : sibling_or_self d s t ≡ true)
    (arguments : arguments_kept d s t a b ≡ true)
  where
    no_root : s ≡ 0 → ⊥
    unfolding sibling_or_self
    no_root = eqb-false s 0 (not_true (eqb s 0) (and_first (not (eqb s 0)) (is_child d (parent d s) t) sibling))

    child : is_child d (parent d s) t ≡ true
    unfolding sibling_or_self
    child = and_second (not (eqb s 0)) (is_child d (parent d s) t) sibling

    named_no_root : t ≡ 0 → ⊥
    unfolding is_child
    named_no_root = eqb-false t 0 (not_true (eqb t 0) (and_first (not (eqb t 0)) (ltb t (length d.states)) (and_first (not (eqb t 0) && ltb t (length d.states)) (eqb (parent d t) (parent d s)) child)))

    same_parent : parent d t ≡ parent d s
    unfolding is_child
    same_parent = eqb-true (parent d t) (parent d s) (and_second (not (eqb t 0) && ltb t (length d.states)) (eqb (parent d t) (parent d s)) child)

    -- both have the same from above
    pub same_above : length (inherited_scope d s) ≡ length (scope_of d (parent d t))
    same_above = ap length (inherited_child d s no_root) ∙ ap (λ (p : ℕ). length (scope_of d p)) (sym same_parent)

    named_count : length (scope_of d t) ≡ length (inherited_scope d s) + (state_at d t).parameters
    named_count = scope_length_lem d t (parent_lower d states t named named_no_root) ∙ ap (λ (n : ℕ). n + (state_at d t).parameters) (sym same_above)

    own_count : length (inherited_scope d s) ≤ length (scope_of d s)
    own_count =
        let all = scope_length_lem d s (parent_lower d states s state no_root) in
        let above = same_above in
        let parent-same = ap (λ (p : ℕ). length (scope_of d p)) same_parent in
        omega arith

    -- the named state's label is one of the first own parameter, or of the second
    pub first_named : state_label d t ≡ parameter_label + length (inherited_scope d s) → Named d s a
    first_named e = argument_named d s t 0 a (go (state_label_byte states parameters t named).is) (and_first (field_kept d s t 0 a) (field_kept d s t 1 b) arguments)
      where
        go : (state_label d t < length d.rows) ⊎ ((parameter_label ≤ state_label d t) × (state_label d t - parameter_label < length (scope_of d t))) → 0 < (state_at d t).parameters
        go (inl h) = absurd (omega arith)
        go (inr (least, inside)) = let all = named_count in omega arith

    pub second_named : parameter_label + length (inherited_scope d s) < state_label d t → Named d s b
    second_named l = argument_named d s t 1 b (go (state_label_byte states parameters t named).is) (and_second (field_kept d s t 0 a) (field_kept d s t 1 b) arguments)
      where
        go : (state_label d t < length d.rows) ⊎ ((parameter_label ≤ state_label d t) × (state_label d t - parameter_label < length (scope_of d t))) → 1 < (state_at d t).parameters
        go (inl h) = absurd (omega arith)
        go (inr (least, inside)) = let all = named_count in omega arith

    plain_byte : state_label d t < parameter_label + length (inherited_scope d s) → LabelByte d s (state_label d t)
    plain_byte l = record { is = go (state_label_byte states parameters t named).is }
      where
        go : (state_label d t < length d.rows) ⊎ ((parameter_label ≤ state_label d t) × (state_label d t - parameter_label < length (scope_of d t))) → (state_label d t < length d.rows) ⊎ ((parameter_label ≤ state_label d t) × (state_label d t - parameter_label < length (scope_of d s)))
        go (inl h) = inl h
        go (inr (least, inside)) = let all = own_count in inr (least, omega arith)

    -- ---- under other labels of registers
    module _ (labels : List ℕ) where
      abbrev above : ℕ
      above = parameter_label + length (inherited_scope d s)

      same_scope : parameter_label + length (scope_of (relabelled d labels) (parent (relabelled d labels) t)) ≡ above
      unfolding scope_of own_parameters
      same_scope = ap (λ (n : ℕ). parameter_label + n) (sym same_above)

      pub label_plain : state_label d t < above → named_label (relabelled d labels) t a b ≡ state_label d t
      unfolding named_label
      label_plain l = cond_true (ltb (state_label d t) _) _ _ (rw same_scope (lt-ltb (state_label d t) above l))

      label_argument : above ≤ state_label d t → named_label (relabelled d labels) t a b ≡ label_byte (relabelled d labels) (cond (eqb (state_label d t) above) a b)
      unfolding named_label
      label_argument l =
          cond_false (ltb (state_label d t) _) _ _ (rw same_scope (le-ltb (state_label d t) above l))
          ∙ ap (λ (n : ℕ). label_byte (relabelled d labels) (cond (eqb (state_label d t) n) a b)) same_scope

      module _ (registers : length d.registers ≤ registers_max) (labelling : LabelsKept d labels) where
        pub label_first : state_label d t ≡ above → named_label (relabelled d labels) t a b ≡ label_in labels a
        label_first e =
            label_argument (omega arith)
            ∙ ap (label_byte (relabelled d labels)) (cond_true (eqb (state_label d t) above) a b (eq-eqb (state_label d t) above e))
            ∙ sym (label_is registers labelling (first_named e))

        pub label_second : above < state_label d t → named_label (relabelled d labels) t a b ≡ label_in labels b
        label_second l =
            label_argument (omega arith)
            ∙ ap (label_byte (relabelled d labels)) (cond_false (eqb (state_label d t) above) a b (ne_eqb (state_label d t) above (λ e. omega arith)))
            ∙ sym (label_is registers labelling (second_named l))

        pub named_label_byte : LabelByte d s (named_label (relabelled d labels) t a b)
        named_label_byte = go (dec_lt (state_label d t) above) (ℕ_discrete (state_label d t) above)
          where
            go : Dec (state_label d t < above) → Dec (state_label d t ≡ above) → LabelByte d s (named_label (relabelled d labels) t a b)
            go (yes l) e = rw (label_plain l) (plain_byte l)
            go (no l) (yes e) = rw (label_first e) (label_byte_lem registers labelling (first_named e))
            go (no l) (no e) = let high : above < state_label d t = omega (arith, l, e) in rw (label_second high) (label_byte_lem registers labelling (second_named high))
