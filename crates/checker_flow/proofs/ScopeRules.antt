-- The table of masks of a state as the code makes it: the bounds that the table of scopes names, the whole table from that of another state, and that it is one of
-- masks.
use Prim.Native.Nat.{ℕ, zero, suc, ◌+◌, ◌*◌, ◌≤◌, ◌<◌}
use mathlib.Core.Path.{◌≡◌, refl, sym, ◌∙◌, ap}
use mathlib.Core.Bool.{Bool, true, false, cond}
use mathlib.Core.List.{List, []}
use native.Mathlib.Omega.{arith}
use native.Mathlib.Decide.{ℕ_discrete}
use lib.Dec.{eqb}
use lib.ListN.{length, get_or}
use borrow.Author.Tests.{eq-eqb, ne_eqb}
use Rattle.model.specs.Image.{Design as Table, design_of}
use Rattle.model.specs.States.{parent}
use Rattle.model.specs.Parameters.{scope_of, lower_bound, upper_bound}
use Rattle.model.proofs.Laws.Booleans.{cond_true, cond_false}
use Rattle.model.proofs.Laws.Plain.{plain_scope}
use Rattle.design.specs.declared.Design.{Design}
use Rattle.design.specs.Kept.{RecordsKept, ParametersKept}
use Rattle.design.specs.Scopes.{inherited_scope, Scopes, NoParameters}
use Rattle.design.proofs.Laws.{states_count}
use Rattle.design.proofs.BoundRules.{parameter_number}
use Rattle.checker_flow.specs.Masks.{Masks, Rows, with_rows, with_own, lower_in_scope, upper_in_scope, scope_masks}
use Rattle.checker_flow.proofs.TableRules.{lower_some, lower_none, upper_some, upper_none, own_rows, own_masks, rows_masks}

-- ---- entries of the table of scopes
module _ {image : List ℕ} {x : Design} (known : RecordsKept image x) where
  module _ {scopes : List ℕ} {s : ℕ} (table : Scopes (design_of image) scopes) (state : s < x.states) where
    state_below : s < length (design_of image).states
    state_below = let count = states_count known.describes in omega arith

    pub scope_inside : 3 * s < length scopes
    scope_inside = let long = table.long in let below = state_below in omega arith

    pub scope_parameter_inside : {i : ℕ} → i < 2 → 3 * s + 1 + i < length scopes
    scope_parameter_inside h = let long = table.long in let below = state_below in omega arith

    scope_count : get_or scopes (3 * s) 0 ≡ length (scope_of (design_of image) s)
    scope_count = table.count s state_below

    scope_none : {c : ℕ} → c ≡ 0 → c ≡ get_or scopes (3 * s) 0 → length (scope_of (design_of image) s) ≡ 0
    scope_none z e = sym scope_count ∙ sym e ∙ z

    parameter_entry : (i : ℕ) → i < 2 → get_or scopes (3 * s + 1 + i) 0 ≡ get_or (scope_of (design_of image) s) i 0
    parameter_entry zero h = let place : 3 * s + 1 + 0 ≡ 3 * s + 1 = omega arith in rw place (table.first s state_below)
    parameter_entry (suc zero) h = let place : 3 * s + 1 + 1 ≡ 3 * s + 2 = omega arith in rw place (table.second s state_below)
    parameter_entry (suc (suc i)) h = absurd (omega arith)

    module _ {c i : ℕ} (h : i < 2) (count : c ≡ get_or scopes (3 * s) 0) where
      some_in_scope : i < c → i < length (scope_of (design_of image) s)
      some_in_scope l = let is = table.count s state_below in omega arith

      pub lower_zero : c ≤ i → 0 ≡ lower_in_scope (design_of image) s i
      lower_zero l = let is = table.count s state_below in sym (lower_none (design_of image) s i (omega arith))

      pub upper_zero : c ≤ i → 0 ≡ upper_in_scope (design_of image) s i
      upper_zero l = let is = table.count s state_below in sym (upper_none (design_of image) s i (omega arith))

      module _ {v : ℕ} (entry : v ≡ get_or scopes (3 * s + 1 + i) 0) (l : i < c) where
        is_parameter : v ≡ get_or (scope_of (design_of image) s) i 0
        is_parameter = entry ∙ parameter_entry i h

        pub parameter_below : ParametersKept (design_of image) → v < 2 * x.states
        parameter_below parameters =
            let states = states_count known.describes in
            let is = is_parameter in
            let number = parameter_number known.states parameters i state_below (some_in_scope l) in
            omega arith

        pub lower_bound_is : {b : ℕ} → b ≡ lower_bound (design_of image) v → b ≡ lower_in_scope (design_of image) s i
        lower_bound_is e = e ∙ ap (lower_bound (design_of image)) is_parameter ∙ sym (lower_some (design_of image) s (some_in_scope l))

        pub upper_bound_is : {b : ℕ} → b ≡ upper_bound (design_of image) v → b ≡ upper_in_scope (design_of image) s i
        upper_bound_is e = e ∙ ap (upper_bound (design_of image)) is_parameter ∙ sym (upper_some (design_of image) s (some_in_scope l))

-- ---- the whole of it, where the passes have come to each part
module _ (d : Table) (s : ℕ) (old : List ℕ) where
  scope_empty : length (scope_of d s) ≡ 0 → scope_masks d s old ≡ old
  unfolding scope_masks
  scope_empty none = cond_true (eqb (length (scope_of d s)) 0) _ _ (eq-eqb (length (scope_of d s)) 0 none)

  scope_some : (length (scope_of d s) ≡ 0 → ⊥) → scope_masks d s old ≡ with_own (with_rows d (lower_in_scope d s 0) (lower_in_scope d s 1) old) (upper_in_scope d s 0) (upper_in_scope d s 1)
  unfolding scope_masks
  scope_some some = cond_false (eqb (length (scope_of d s)) 0) _ _ (ne_eqb (length (scope_of d s)) 0 some)

pub masks_stay : {image scopes : List ℕ} {x : Design} {s c : ℕ} (old : List ℕ) → c ≡ 0 → c ≡ get_or scopes (3 * s) 0 → Scopes (design_of image) scopes → RecordsKept image x → s < x.states → old ≡ scope_masks (design_of image) s old
masks_stay {image} {s = s} old z count table known state = sym (scope_empty (design_of image) s old (scope_none known table state z count))

pub masks_made :
    {image scopes : List ℕ} {x : Design} {s c first second fu su : ℕ} {rows after : List ℕ} (old : List ℕ)
    → after ≡ with_own rows fu su
    → rows ≡ with_rows (design_of image) first second old
    → first ≡ lower_in_scope (design_of image) s 0
    → second ≡ lower_in_scope (design_of image) s 1
    → fu ≡ upper_in_scope (design_of image) s 0
    → su ≡ upper_in_scope (design_of image) s 1
    → (c ≡ 0 → ⊥)
    → c ≡ get_or scopes (3 * s) 0
    → Scopes (design_of image) scopes
    → RecordsKept image x
    → s < x.states
    → after ≡ scope_masks (design_of image) s old
masks_made {image} {s = s} old h g a b e f z count table known state =
    h ∙ rw (g, a, b, e, f) (sym (scope_some (design_of image) s old (λ none. z (count ∙ scope_count known table state ∙ none))))

module _ {image : List ℕ} {x : Design} {s : ℕ} (old : List ℕ) {after : List ℕ} (is : after ≡ scope_masks (design_of image) s old) (rows : Rows (design_of image) old) (known : RecordsKept image x) (parameters : ParametersKept (design_of image)) (state : s < x.states) where
  pub scoped_rows : Rows (design_of image) after
  scoped_rows = go (ℕ_discrete (length (scope_of (design_of image) s)) 0)
    where
      go : Dec (length (scope_of (design_of image) s) ≡ 0) → Rows (design_of image) after
      go (yes none) = rw (is, scope_empty (design_of image) s old none) rows
      go (no some) = rw (is, scope_some (design_of image) s old some) (own_rows known old parameters state rows.long)

  pub scoped_masks : Masks (design_of image) s after
  scoped_masks = go (ℕ_discrete (length (scope_of (design_of image) s)) 0)
    where
      go : Dec (length (scope_of (design_of image) s) ≡ 0) → Masks (design_of image) s after
      go (yes none) = rw (is, scope_empty (design_of image) s old none) (rows_masks known rows parameters state none)
      go (no some) = rw (is, scope_some (design_of image) s old some) (own_masks known old parameters state rows.long)

-- ---- where the label bytes of own parameters begin
pub own_above : (d : Table) (s : ℕ) {n : ℕ} → n ≡ length (inherited_scope d s) → 16 + n ≡ 16 + length (inherited_scope d s)
own_above d s e = ap (λ (n : ℕ). 16 + n) e

pub own_plain : {d : Table} (s : ℕ) → NoParameters d → 16 ≡ 16 + length (inherited_scope d s)
unfolding inherited_scope
own_plain {d} s plain = go (eqb s 0)
  where
    go : (root : Bool) → 16 ≡ 16 + length (cond root [] (scope_of d (parent d s)))
    go true = refl
    go false = rw (plain_scope d plain.none (parent d s)) refl

pub ruleset bounds_laws = (scope_inside, scope_parameter_inside, lower_zero, upper_zero, parameter_below, lower_bound_is, upper_bound_is)
