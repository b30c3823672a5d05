-- A rule of a register or a state, tested on the fields that the accessors read, is the meaning's rule.
use Prim.Native.Nat.{ℕ, zero, suc, ◌+◌, ◌≤◌, ◌<◌, ◌^◌}
use mathlib.Core.Path.{◌≡◌, refl, sym, ◌∙◌, ap}
use mathlib.Core.Bool.{Bool, true, false, ◌&&◌, ◌||◌}
use mathlib.Core.List.{List}
use native.Mathlib.Omega.{arith}
use lib.Dec.{ltb, leb, eqb}
use borrow.Author.Tests.{le-leb}
use lib.ListN.{length, get_or}
use Rattle.model.specs.Limits.{width_max, parameter_label, binding_length}
use Rattle.model.specs.Image as Image
use Rattle.model.specs.Image.{Register, State, design_of, register_at, state_at}
use Rattle.model.specs.Lattice.{state_label}
use Rattle.model.specs.States.{width_kept, register_kept, parent, parent_kept, state_kept, default_target}
use Rattle.model.specs.Trees.{body_of}
use Rattle.model.specs.Values.{one_or_zero}
use Rattle.model.specs.Falls.{holds_fall, is_fallen_into, child_label_kept}
use Rattle.model.proofs.Laws.Booleans.{false_unless_true, true_or_false}
use Rattle.model.proofs.Laws.States.{child_of, is_child_lem}
use Rattle.model.proofs.Exact.Falls.{holds_iff, fallen_iff}
use Rattle.model.proofs.Exact.Records.{register_iff}
use Rattle.design.specs.declared.Design.{Design}
use Rattle.design.specs.Records.{register_in, state_in, state_end}
use Rattle.design.specs.Describes.{Describes}
use Rattle.design.specs.Kept.{StatesKept, ParametersKept}
use Rattle.design.specs.Resets.{Defaults}
use Rattle.design.specs.Falls.{FallsTold}
use Rattle.design.specs.Scopes.{LabelByte}
use Rattle.design.proofs.Laws.{labels_count, states_count, commands_count, register_in_lem, state_in_lem, state_inside}
use Rattle.design.proofs.ResetRules.{state_fits, parent_is, parent_inside, parent_lower}
use Rattle.design.proofs.BoundRules.{state_label_byte, child_label_byte}
use Rattle.checker_records.specs.Bounds.{flows_for_each}

-- ---- rules of a state that ask whether it is the root
-- a label byte that stands for a parameter's label
abbrev ParameterTest : ℕ → Bool
ParameterTest l = leb parameter_label l && ltb l (parameter_label + binding_length)

root_is : (y : Image.Design) (s : ℕ) {p l : ℕ} {b : Bool} → s ≡ 0 → p ≡ parent y s → l ≡ state_label y s → b ≡ ParameterTest l → (eqb p 0 && (eqb l 0 || b)) ≡ parent_kept y s
unfolding parent_kept
root_is y zero z p l b = rw (b, p, l)
root_is y (suc s) z p l b = absurd (omega arith)

child_is : (y : Image.Design) (s : ℕ) {p : ℕ} → (s ≡ 0 → ⊥) → p ≡ parent y s → ltb p s ≡ parent_kept y s
unfolding parent_kept
child_is y zero n p = absurd (n refl)
child_is y (suc s) n p = rw p

-- the rule for a default child looks at none but those: the root is nobody's child, and the others are not fallen into
module _ (y : Image.Design) (s : ℕ) where
  passed_over : (is_fallen_into y s ≡ true → ⊥) → true ≡ child_label_kept y s
  unfolding child_label_kept
  passed_over h = rw (false_unless_true (is_fallen_into y s) h)

  pub root_child : s ≡ 0 → true ≡ child_label_kept y s
  root_child z = passed_over (λ e. (child_of y (parent y s) s ((fallen_iff y s).0 e).0).no_root z)

  no_fall_above : holds_fall (body_of y (parent y s)) ≡ false → true ≡ child_label_kept y s
  no_fall_above h = passed_over (λ e. true_or_false (holds_fall (body_of y (parent y s))) (holds_iff.1 ((fallen_iff y s).0 e).2) h)

  other_default : (default_target y (parent y s) ≡ s → ⊥) → true ≡ child_label_kept y s
  other_default h = passed_over (λ e. h ((fallen_iff y s).0 e).1)

  child_label_is : {b : Bool} → (s ≡ 0 → ⊥) → s < length y.states → holds_fall (body_of y (parent y s)) ≡ true → default_target y (parent y s) ≡ s → b ≡ flows_for_each y s (state_label y (parent y s)) (state_label y s) → b ≡ child_label_kept y s
  unfolding child_label_kept flows_for_each
  child_label_is n l h e b =
      rw ((fallen_iff y s).1 (is_child_lem y (parent y s) s (record { no_root = n; state = l; parent_is = refl }), e, holds_iff.0 h)) b

-- what a mark says
not_held : {b : Bool} → one_or_zero b ≡ 0 → b ≡ false
not_held {b = true} z = absurd (omega arith)
not_held {b = false} z = refl

held_some : {b : Bool} → (one_or_zero b ≡ 0 → ⊥) → b ≡ true
held_some {b = true} n = refl
held_some {b = false} n = absurd (n refl)

module _ {image : List ℕ} {x : Design} (d : Describes image x) where
  -- ---- registers: a width below its range, one above it, and one within
  module _ {r w : ℕ} (h : r < x.registers) (q : w ≡ (register_in image x.registers_at r).width) where
    width_is : (register_at (design_of image) r).width ≡ w
    width_is = sym (q ∙ ap (λ (y : Register). y.width) (register_in_lem d h))

    pub too_narrow : w < 1 → false ≡ register_kept (design_of image) r
    too_narrow l = sym (false_unless_true (register_kept (design_of image) r) (λ e. let least = ((register_iff (design_of image) r).0 e).width_least in let is = width_is in omega arith))

    pub too_wide : 32 < w → false ≡ register_kept (design_of image) r
    too_wide l = sym (false_unless_true (register_kept (design_of image) r) (λ e. let most = ((register_iff (design_of image) r).0 e).width_most in let is = width_is in omega arith))

    pub register_rule : {l k v : ℕ} {f : Bool} → 1 ≤ w → w ≤ width_max → l ≡ (register_in image x.registers_at r).label → k ≡ (register_in image x.registers_at r).kind
        → v ≡ (register_in image x.registers_at r).reset → f ≡ ltb v (2 ^ w)
        → (ltb l x.labels && leb k 1 && f) ≡ register_kept (design_of image) r
    unfolding register_kept width_kept
    register_rule {f} least most label kind reset e =
        let same = register_in_lem d h in
        let wide = width_is in
        rw (
          label ∙ ap (λ (y : Register). y.label) same,
          kind ∙ ap (λ (y : Register). y.kind) same,
          labels_count d,
          e ∙ ap (λ (v : ℕ). ltb v (2 ^ w)) (reset ∙ ap (λ (y : Register). y.reset) same),
          wide,
          le-leb 1 w least,
          le-leb w 32 most,
        )

  -- ---- states. The root's rules, and those of any other state
  pub root_rule : {s p l : ℕ} {b : Bool} → s < x.states → s ≡ 0 → p ≡ (state_in image x.states_at s).parent → l ≡ (state_in image x.states_at s).label
      → b ≡ ParameterTest l → (eqb p 0 && (eqb l 0 || b)) ≡ parent_kept (design_of image) s
  root_rule {s} h z p l b =
      let same = state_in_lem d h in
      root_is (design_of image) s z (p ∙ ap (λ (y : State). y.parent) same) (l ∙ ap (λ (y : State). y.label) same) b

  pub child_rule : {s p : ℕ} → s < x.states → (s ≡ 0 → ⊥) → p ≡ (state_in image x.states_at s).parent → ltb p s ≡ parent_kept (design_of image) s
  child_rule {s} h n p = child_is (design_of image) s n (p ∙ ap (λ (y : State). y.parent) (state_in_lem d h))

  pub state_rule : {s l c : ℕ} {b n : Bool} → s < x.states → b ≡ parent_kept (design_of image) s → l ≡ (state_in image x.states_at s).label
      → n ≡ ParameterTest l → c ≡ (state_in image x.states_at s).command → (b && (ltb l x.labels || n) && ltb c x.commands) ≡ state_kept (design_of image) s
  unfolding state_kept
  state_rule h b p n q =
      let same = state_in_lem d h in
      rw (b, n, p ∙ ap (λ (y : State). y.label) same, q ∙ ap (λ (y : State). y.command) same, labels_count d, commands_count d)

  -- ---- children, where every state is kept
  module _ (kept : StatesKept (design_of image)) where
    -- the label bytes of a state and of its parent stand for labels in its scope
    module _ {s p : ℕ} (h : s < x.states) (some : 0 < s) (e : p ≡ (state_at (design_of image) s).parent) where
      pub above_inside : p < x.states
      above_inside = let count = states_count d in let lower = parent_lower (design_of image) kept s (omega arith) (λ z. omega arith) in omega arith

      above_label : {f : ℕ} → f ≡ (state_in image x.states_at p).label → f ≡ state_label (design_of image) (parent (design_of image) s)
      above_label q = q ∙ ap (λ (y : State). y.label) (state_in_lem d above_inside) ∙ ap (state_label (design_of image)) e

      own_label : {t : ℕ} → t ≡ (state_in image x.states_at s).label → t ≡ state_label (design_of image) s
      own_label q = q ∙ ap (λ (y : State). y.label) (state_in_lem d h)

      module _ (parameters : ParametersKept (design_of image)) where
        pub own_label_byte : {t : ℕ} → t ≡ (state_in image x.states_at s).label → LabelByte (design_of image) s t
        own_label_byte q = let count = states_count d in rw (own_label q) (state_label_byte kept parameters s (omega arith))

        pub above_label_byte : {f : ℕ} → f ≡ (state_in image x.states_at p).label → LabelByte (design_of image) s f
        above_label_byte q =
            let count = states_count d in
            let inside = above_inside in
            rw (above_label q) (child_label_byte kept (omega arith) (λ z. omega arith) (state_label_byte kept parameters (parent (design_of image) s) (omega arith)))

      pub above_rule :
          {f t : ℕ} {b : Bool}
          → b ≡ flows_for_each (design_of image) s f t
          → f ≡ (state_in image x.states_at p).label
          → t ≡ (state_in image x.states_at s).label
          → b ≡ flows_for_each (design_of image) s (state_label (design_of image) (parent (design_of image) s)) (state_label (design_of image) s)
      above_rule b from to = rw (← (above_label from), ← (own_label to)) b

    module _ {defaults falls : List ℕ} (told : Defaults (design_of image) defaults) (fell : FallsTold (design_of image) falls) {s p : ℕ} (h : s < x.states) (e : p ≡ (state_in image x.states_at s).parent) where
      parent_state : p < length (design_of image).states
      parent_state = let count = states_count d in let inside = parent_inside d kept h e in omega arith

      pub fall_entry : p < length falls
      fall_entry = let long = fell.long in let state = parent_state in omega arith

      pub default_entry : p < length defaults
      default_entry = let long = told.long in let state = parent_state in omega arith

      -- the entries of the parent
      held : get_or falls p 0 ≡ one_or_zero (holds_fall (body_of (design_of image) (parent (design_of image) s)))
      held = fell.entry p parent_state ∙ ap (λ (q : ℕ). one_or_zero (holds_fall (body_of (design_of image) q))) (parent_is d h e)

      default : get_or defaults p 0 ≡ default_target (design_of image) (parent (design_of image) s)
      default = told.entry p parent_state ∙ ap (default_target (design_of image)) (parent_is d h e)

      pub passes_no_fall : get_or falls p 0 ≡ 0 → true ≡ child_label_kept (design_of image) s
      passes_no_fall z = no_fall_above (design_of image) s (not_held (sym held ∙ z))

      pub passes_other : (get_or defaults p 0 ≡ s → ⊥) → true ≡ child_label_kept (design_of image) s
      passes_other n = other_default (design_of image) s (λ z. n (default ∙ z))

      pub parent_known : p ≡ (state_at (design_of image) s).parent
      parent_known = parent_is d h e

      pub child_label_rule :
          {b : Bool}
          → b ≡ flows_for_each (design_of image) s (state_label (design_of image) (parent (design_of image) s)) (state_label (design_of image) s)
          → (s ≡ 0 → ⊥)
          → (get_or falls p 0 ≡ 0 → ⊥)
          → get_or defaults p 0 ≡ s
          → b ≡ child_label_kept (design_of image) s
      child_label_rule b n z o = let count = states_count d in child_label_is (design_of image) s n (omega arith) (held_some (λ y. z (held ∙ y))) (sym default ∙ o) b

pub some_state : {s : ℕ} → (s ≡ 0 → ⊥) → 0 < s
some_state n = omega (arith, n)

-- the laws of a state's label and its parent's, for `search`
pub ruleset child_laws = (root_child, fall_entry, default_entry, state_fits, passes_no_fall, passes_other, parent_known, some_state, child_label_rule)

pub ruleset above_laws = (above_inside, own_label_byte, above_label_byte, above_rule)

-- the laws of a register's record, for `search`
pub ruleset register_laws = (too_narrow, too_wide, register_rule)
