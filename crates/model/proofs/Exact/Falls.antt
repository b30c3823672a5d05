-- Refusal 9 is exact: the default child is the lowest child, and the test for a fall finds one wherever it stands.
use Prim.Native.Nat.{ℕ}
use mathlib.Core.Path.{◌≡◌, refl}
use mathlib.Core.Logic.Iff
use mathlib.Core.Logic.{◌↔◌, ⊎_elim}
use mathlib.Core.Bool.{true, false}
use Rattle.model.specs.Image.{Design}
use Rattle.model.specs.Lattice.{state_label}
use Rattle.model.specs.States.{parent, is_child, default_target}
use Rattle.model.specs.Trees.{Cmd, skip, assign, sequence, fall, goto, branch, body_of}
use Rattle.model.specs.Parameters.{label_under, is_default_child}
use Rattle.model.specs.Falls.{holds_fall, is_fallen_into, child_label_kept}
use Rattle.model.specs.Rules.{FlowsTo, HoldsFall, itself, in_first, in_second, in_then, in_else, EveryChoice, ChildLabelKeeps}
use Rattle.model.proofs.Laws.Booleans.{or_cases, or_first, or_second, true_or_false}
use Rattle.model.proofs.Laws.Equivalences.{equal_iff, and_three_iff, implies_iff}
use Rattle.model.proofs.Laws.Choices.{every_choice_iff}
use Rattle.model.proofs.Laws.States.{child_of, default_is, default_least}

-- ---- a fall in a command
holds_fall_lem : (c : Cmd) → holds_fall c ≡ true → HoldsFall c
unfolding holds_fall
holds_fall_lem (skip n) h = absurd (true_or_false false h refl)
holds_fall_lem (assign n r e) h = absurd (true_or_false false h refl)
holds_fall_lem (sequence n p q) h = ⊎_elim (λ (k : holds_fall p ≡ true). in_first (holds_fall_lem p k)) (λ (k : holds_fall q ≡ true). in_second (holds_fall_lem q k)) (or_cases (holds_fall p) (holds_fall q) h)
holds_fall_lem (fall n) h = itself
holds_fall_lem (goto n t x y) h = absurd (true_or_false false h refl)
holds_fall_lem (branch n e p q) h = ⊎_elim (λ (k : holds_fall p ≡ true). in_then (holds_fall_lem p k)) (λ (k : holds_fall q ≡ true). in_else (holds_fall_lem q k)) (or_cases (holds_fall p) (holds_fall q) h)

fall_held : {c : Cmd} → HoldsFall c → holds_fall c ≡ true
unfolding holds_fall
fall_held itself = refl
fall_held (in_first {p = p} {q = q} h) = or_first (holds_fall p) (holds_fall q) (fall_held h)
fall_held (in_second {p = p} {q = q} h) = or_second (holds_fall p) (holds_fall q) (fall_held h)
fall_held (in_then {p = p} {q = q} h) = or_first (holds_fall p) (holds_fall q) (fall_held h)
fall_held (in_else {p = p} {q = q} h) = or_second (holds_fall p) (holds_fall q) (fall_held h)

pub holds_iff : {c : Cmd} → (holds_fall c ≡ true) ↔ HoldsFall c
holds_iff {c} = (holds_fall_lem c, fall_held)

-- ---- the label of a default child
module _ (d : Design) where
  pub fallen_iff : (q : ℕ) → (is_fallen_into d q ≡ true) ↔ ((is_child d (parent d q) q ≡ true) × (default_target d (parent d q) ≡ q) × HoldsFall (body_of d (parent d q)))
  unfolding is_fallen_into is_default_child
  fallen_iff q = and_three_iff (λ e. e, λ e. e) equal_iff holds_iff

  tested : (q : ℕ) → (child_label_kept d q ≡ true) ↔ ((is_child d (parent d q) q ≡ true) × (default_target d (parent d q) ≡ q) × HoldsFall (body_of d (parent d q)) → EveryChoice d q (λ choice. FlowsTo d.rows (label_under choice (state_label d (parent d q))) (label_under choice (state_label d q))))
  unfolding child_label_kept
  tested q = implies_iff (fallen_iff q) (every_choice_iff d q (λ choice. (λ e. e, λ e. e)))

  pub child_label_iff : (q : ℕ) → (child_label_kept d q ≡ true) ↔ ChildLabelKeeps d q
  child_label_iff q =
      Iff.trans
      (tested q) (
        λ h s holds child.
            let above : parent d q ≡ s = (child_of d s q child.child).parent_is in
            rw above at (h (rw above child.child, rw above (default_is d s q child.child child.lowest), rw above holds)),
        λ k (child, default, holds). k (parent d q) holds (record { child = child; lowest = λ r other. rw default at (default_least d (parent d q) r other) }),
      )
