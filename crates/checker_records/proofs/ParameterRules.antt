-- The rules of a state's parameters, tested on the fields that the accessors read and on the scopes of the states below it, are the meaning's.
use Rattle.std.specs.Prelude.{Some, None}
use Prim.Native.Nat.{ℕ, ◌+◌, ◌-◌, ◌≤◌, ◌<◌}
use mathlib.Core.Path.{◌≡◌, refl, sym, ◌∙◌, ap}
use mathlib.Core.Bool.{Bool, true, false, ◌&&◌, ◌||◌, not}
use mathlib.Core.List.{List}
use native.Mathlib.Omega.{arith}
use lib.Dec.{leb, ltb, eqb}
use lib.ListN.{length, get_or}
use borrow.Author.Tests.{lt-ltb, le-ltb, eq-eqb, ne_eqb}
use Rattle.model.specs.Limits.{parameter_label}
use Rattle.model.specs.Image.{State, design_of, state_at}
use Rattle.model.specs.Lattice.{flows_to}
use Rattle.model.specs.States.{parent, default_target}
use Rattle.model.specs.Parameters.{scope_of, pair_kept, is_default_child, takes_parameters, label_in_scope, parameters_kept}
use Rattle.model.proofs.Laws.Booleans.{cond_true, cond_false, not_true, not_false}
use Rattle.model.proofs.Laws.Passes.{Passed, passed_more, passed_fails, passed_all}
use Rattle.model.proofs.Laws.States.{is_child_lem}
use Rattle.model.proofs.Exact.Parameters.{parameters_iff}
use Rattle.design.specs.declared.Design.{Design}
use Rattle.design.specs.Records.{state_in}
use Rattle.design.specs.Describes.{Describes}
use Rattle.design.specs.Kept.{StatesKept}
use Rattle.design.specs.Resets.{Defaults}
use Rattle.design.specs.Scopes.{inherited_scope, with_scope, with_scopes, ScopesBelow}
use Rattle.design.proofs.Laws.{labels_count, states_count, state_in_lem}
use Rattle.design.proofs.ResetRules.{parent_is, parent_inside, state_fits}
use Rattle.design.proofs.ScopeRules.{count_is, scope_put, scopes_begun, scopes_written, scopes_done, scopes_next, scopes_all}
use Rattle.checker_records.specs.ParameterTests.{first_pair_kept, second_pair_kept, Entered, ParametersPassed}

-- a test that a part fails
and_third : (a b c : Bool) → b ≡ false → (a && b && c) ≡ false
and_third true b c z = rw z
and_third false b c z = refl

module _ {image : List ℕ} {x : Design} (d : Describes image x) where
  -- ---- a pair of bounds
  module _ (used : Bool) (l u : ℕ) where
    pub pair_unused : not used ≡ true → (eqb l 0 && eqb u 0) ≡ pair_kept (design_of image) used l u
    unfolding pair_kept
    pair_unused n = rw (not_true used n)

    pub pair_no_lower : not used ≡ false → x.labels ≤ l → false ≡ pair_kept (design_of image) used l u
    unfolding pair_kept
    pair_no_lower n h = let count = labels_count d in rw (not_false used n, le-ltb l (length (design_of image).rows) (omega arith))

    pub pair_no_upper : not used ≡ false → x.labels ≤ u → false ≡ pair_kept (design_of image) used l u
    unfolding pair_kept
    pair_no_upper n h =
        let count = labels_count d in
        rw (not_false used n) (sym (and_third (ltb l (length (design_of image).rows)) (ltb u (length (design_of image).rows)) (flows_to (design_of image).rows l u) (le-ltb u (length (design_of image).rows) (omega arith))))

    pub pair_flows : {b : Bool} → not used ≡ false → l < x.labels → u < x.labels → b ≡ flows_to (design_of image).rows l u → b ≡ pair_kept (design_of image) used l u
    unfolding pair_kept
    pair_flows n h k e =
        let count = labels_count d in
        rw (not_false used n, lt-ltb l (length (design_of image).rows) (omega arith), lt-ltb u (length (design_of image).rows) (omega arith)) e

  -- ---- whether a state takes parameters
  pub root_takes_none : {s : ℕ} → s ≡ 0 → false ≡ takes_parameters (design_of image) s
  unfolding takes_parameters
  root_takes_none {s} z = rw (eq-eqb s 0 z)

  module _ {defaults : List ℕ} {s p : ℕ} (kept : StatesKept (design_of image)) (told : Defaults (design_of image) defaults) (l : s < x.states) (e : p ≡ (state_in image x.states_at s).parent) where
    pub parent_default : p < length defaults
    parent_default = let count = states_count d in let long = told.long in let inside = parent_inside d kept l e in omega arith

    pub child_takes : (s ≡ 0 → ⊥) → not (eqb (get_or defaults p 0) s) ≡ takes_parameters (design_of image) s
    unfolding takes_parameters is_default_child
    child_takes n =
        let count = states_count d in
        let inside = parent_inside d kept l e in
        let default : get_or defaults p 0 ≡ default_target (design_of image) (parent (design_of image) s) = told.entry p (omega arith) ∙ ap (default_target (design_of image)) (parent_is d l e) in
        rw (default, ne_eqb s 0 n, is_child_lem (design_of image) (parent (design_of image) s) s (record { no_root = n; state = omega arith; parent_is = refl }))

  -- ---- the label byte
  module _ {s b : ℕ} (l : s < x.states) (e : b ≡ (state_in image x.states_at s).label) where
    label_same : b ≡ (state_at (design_of image) s).label
    label_same = e ∙ ap (λ (y : State). y.label) (state_in_lem d l)

    pub label_plain : b < 16 → true ≡ label_in_scope (design_of image) s
    unfolding label_in_scope
    label_plain h = rw (← label_same, lt-ltb b parameter_label h)

    pub label_parameter : {n : ℕ} → n ≡ length (scope_of (design_of image) s) → 16 ≤ b → ltb (b - 16) n ≡ label_in_scope (design_of image) s
    unfolding label_in_scope
    label_parameter q h = rw (← label_same, le-ltb b parameter_label h, ← q)

  -- ---- the two pairs
  module _ {s m l u : ℕ} {b : Bool} (here : s < x.states) (o : m ≡ (state_in image x.states_at s).parameters) where
    pub first_pair_rule :
        b ≡ pair_kept (design_of image) (ltb 0 m) l u
        → l ≡ (state_in image x.states_at s).first_lower
        → u ≡ (state_in image x.states_at s).first_upper
        → b ≡ first_pair_kept (design_of image) s
    unfolding first_pair_kept
    first_pair_rule e p q =
        let same = state_in_lem d here in
        e
        ∙ rw (o ∙ ap (λ (y : State). y.parameters) same, p ∙ ap (λ (y : State). y.first_lower) same, q ∙ ap (λ (y : State). y.first_upper) same)

    pub second_pair_rule :
        b ≡ pair_kept (design_of image) (ltb 1 m) l u
        → l ≡ (state_in image x.states_at s).second_lower
        → u ≡ (state_in image x.states_at s).second_upper
        → b ≡ second_pair_kept (design_of image) s
    unfolding second_pair_kept
    second_pair_rule e p q =
        let same = state_in_lem d here in
        e
        ∙ rw (o ∙ ap (λ (y : State). y.parameters) same, p ∙ ap (λ (y : State). y.second_lower) same, q ∙ ap (λ (y : State). y.second_upper) same)

  -- ---- all rules of a state
  pub parameters_rule :
      {scopes : List ℕ} {s n m : ℕ} {t first second k : Bool}
      → t ≡ takes_parameters (design_of image) s
      → first ≡ first_pair_kept (design_of image) s
      → second ≡ second_pair_kept (design_of image) s
      → k ≡ label_in_scope (design_of image) s
      → n ≡ length (inherited_scope (design_of image) s)
      → m ≡ (state_in image x.states_at s).parameters
      → s < x.states
      → StatesKept (design_of image)
      → ScopesBelow (design_of image) scopes s
      → (leb m 2 && (t || eqb m 0) && leb (n + m) 2 && first && second && k) ≡ parameters_kept (design_of image) s
  unfolding parameters_kept first_pair_kept second_pair_kept
  parameters_rule t first second k q o l kept so =
      rw (count_is d kept so l q o, t, first, second, k, o ∙ ap (λ (y : State). y.parameters) (state_in_lem d l))

  -- ---- the pass
  pub short_kept : (s : ℕ) {b : Bool} → b ≡ parameters_kept (design_of image) s → not b ≡ false → length (scope_of (design_of image) s) ≤ 2
  short_kept s {b} e h = ((parameters_iff (design_of image) s).0 (sym e ∙ not_false b h)).scope

  pub not_entered : {table : List ℕ} {s : ℕ} {b : Bool} → b ≡ parameters_kept (design_of image) s → not b ≡ true → Entered (design_of image) s false table table
  not_entered {b = b} e h = record { is = sym (not_true b h) ∙ e; entry = refl }

  pub entered : {before after : List ℕ} {s : ℕ} {b : Bool} → after ≡ with_scope (design_of image) s before → b ≡ parameters_kept (design_of image) s → not b ≡ false → Entered (design_of image) s true before after
  entered {b = b} put e h = record { is = sym (not_false b h) ∙ e; entry = put }

  module _ {before after : List ℕ} {s : ℕ} {b : Bool} (one : Entered (design_of image) s b before after) where
    pub passed_entered : Passed (parameters_kept (design_of image)) s → not b ≡ false → Passed (parameters_kept (design_of image)) (s + 1)
    passed_entered p h = passed_more p one.is h

    scope_there : not b ≡ false → after ≡ with_scope (design_of image) s before
    scope_there h = one.entry ∙ cond_true b (with_scope (design_of image) s before) before (not_false b h)

    pub scopes_entered : StatesKept (design_of image) → ScopesBelow (design_of image) before s → s < x.states → not b ≡ false → ScopesBelow (design_of image) after (s + 1)
    scopes_entered kept so l h = scopes_next d (scope_put d kept so l (scope_there h))

    pub entries_more : (old : List ℕ) → before ≡ with_scopes (design_of image) s old → not b ≡ false → after ≡ with_scopes (design_of image) (s + 1) old
    entries_more old e h = scopes_written d old s e (scope_there h)

    pub parameters_fail : (old : List ℕ) → before ≡ with_scopes (design_of image) s old → Passed (parameters_kept (design_of image)) s → s < x.states → not b ≡ true → ParametersPassed (design_of image) (Some s) old after
    parameters_fail old e p l h =
        record {
          is = passed_fails p l (states_count d) one.is h;
          entries = one.entry ∙ cond_false b (with_scope (design_of image) s before) before (not_true b h) ∙ e;
          scopes = λ z. let no : ◌≡◌ {A = ℕ} 0 1 = cc in absurd (omega arith);
        }

  pub parameters_pass :
      (old : List ℕ) {table : List ℕ} {i : ℕ}
      → Passed (parameters_kept (design_of image)) i
      → ScopesBelow (design_of image) table i
      → table ≡ with_scopes (design_of image) i old
      → i ≤ x.states
      → x.states ≤ i
      → ParametersPassed (design_of image) None old table
  parameters_pass old p so e h l =
      let count = states_count d in
      record { is = passed_all p l (states_count d); entries = scopes_done d old e (omega arith) (omega arith); scopes = λ z. scopes_all d so l }

-- the laws of a state's parameters, for `search`
pub ruleset pair_laws = (pair_unused, pair_no_lower, pair_no_upper, pair_flows)

pub ruleset taking_laws = (root_takes_none, parent_default, child_takes, state_fits)

pub ruleset scope_label_laws = (label_plain, label_parameter)

pub ruleset entering_laws = (scopes_begun, passed_entered, scopes_entered, entries_more, parameters_fail, parameters_pass)
