-- The tests of shape and flow say what the table's propositions say: which commands transfer, which states are children, which labels flow.
use Prim.Native.Nat.{ℕ}
use mathlib.Core.Path.{◌≡◌, refl, sym, ◌∙◌}
use mathlib.Core.Logic.Iff
use mathlib.Core.Logic.{◌↔◌, ⊎_elim}
use mathlib.Core.Bool.{Bool, true, false, false≢true}
use mathlib.Core.List.Memᴰ
use mathlib.Core.List.{List, [], ◌∷◌, map, Memᴰ}
use lib.Dec.{eqb}
use borrow.Author.Tests.{eqb-true, eq-eqb}
use Rattle.model.specs.Image.{Design}
use Rattle.model.specs.Lattice.{all_flow_to}
use Rattle.model.specs.States.{parent, is_child, has_child, sibling_or_self}
use Rattle.model.specs.Trees.{Cmd, skip, assign, sequence, fall, goto, branch}
use Rattle.model.specs.Shape.{transfers}
use Rattle.model.specs.Parameters.{label_under}
use Rattle.model.specs.Flow.{flows_each}
use Rattle.model.specs.Rules.{FlowsTo}
use Rattle.model.specs.Standing.{Transfers, by_fall, by_goto, by_second, by_branches, ChildOf, EachFlow}
use Rattle.model.proofs.Laws.Booleans.{true_or_false, false_unless_true, and_first, and_second, and_both}
use Rattle.model.proofs.Laws.Equivalences.{less_iff, equal_iff, not_iff, and_iff, and_three_iff, some_iff}
use Rattle.model.proofs.Laws.Choices.{every_choice_iff}

-- ---- transferring
pub transfers_true : {c : Cmd} → Transfers c → transfers c ≡ true
unfolding transfers
transfers_true by_fall = refl
transfers_true by_goto = refl
transfers_true (by_second h) = transfers_true h
transfers_true (by_branches {p} {q} h k) = and_both (transfers p) (transfers q) (transfers_true h) (transfers_true k)

pub transfers_made : (c : Cmd) → transfers c ≡ true → Transfers c
unfolding transfers
transfers_made (skip n) e = absurd (false≢true e)
transfers_made (assign n r x) e = absurd (false≢true e)
transfers_made (sequence n p q) e = by_second (transfers_made q e)
transfers_made (fall n) e = by_fall
transfers_made (goto n t x y) e = by_goto
transfers_made (branch n x p q) e =
    by_branches (transfers_made p (and_first (transfers p) (transfers q) e)) (transfers_made q (and_second (transfers p) (transfers q) e))

-- two commands that both transfer or neither
pub same_transfer : (p q : Cmd) → Transfers p ↔ Transfers q → transfers p ≡ transfers q
same_transfer p q both = go (transfers p) (transfers q) refl refl
  where
    go : (a b : Bool) → transfers p ≡ a → transfers q ≡ b → transfers p ≡ transfers q
    go true b e f = e ∙ sym (transfers_true (both.0 (transfers_made p e)))
    go false true e f = absurd (true_or_false (transfers p) (transfers_true (both.1 (transfers_made q f))) e)
    go false false e f = e ∙ sym f

-- numbers that are not equal
not_equal_iff : {a b : ℕ} → (eqb a b ≡ false) ↔ (a ≡ b → ⊥)
not_equal_iff {a} {b} = (λ e same. true_or_false (eqb a b) (eq-eqb a b same) e, λ apart. false_unless_true (eqb a b) (λ e. apart (eqb-true a b e)))

module _ (d : Design) where
  -- ---- children
  pub child_iff : (s q : ℕ) → (is_child d s q ≡ true) ↔ ChildOf d s q
  unfolding is_child
  child_iff s q =
      Iff.trans
      (and_three_iff (Iff.trans not_iff not_equal_iff) less_iff equal_iff) (
        λ h. record { no_root = h.0; state = h.1; parent_is = h.2 },
        λ k. (k.no_root, k.state, k.parent_is),
      )

  pub has_child_iff : (s : ℕ) → (has_child d s ≡ true) ↔ ((q : ℕ) × ChildOf d s q)
  unfolding has_child
  has_child_iff s = Iff.trans (some_iff (child_iff s)) (λ h. (h.0, h.2), λ h. (h.0, h.1.state, h.1))

  pub sibling_iff : (s t : ℕ) → (sibling_or_self d s t ≡ true) ↔ ((s ≡ 0 → ⊥) × ChildOf d (parent d s) t)
  unfolding sibling_or_self
  sibling_iff s t = and_iff (Iff.trans not_iff not_equal_iff) (child_iff (parent d s) t)

  -- ---- flow
  under_choice_iff :
      (choice labels : List ℕ) (to : ℕ)
      → (all_flow_to d.rows (map (label_under choice) labels) (label_under choice to) ≡ true)
      ↔ ((label : ℕ) → Memᴰ label labels → FlowsTo d.rows (label_under choice label) (label_under choice to))
  unfolding all_flow_to
  under_choice_iff choice [] to = (λ e label h. absurd (Memᴰ.not-nil h), λ h. refl)
  under_choice_iff choice (one ∷ more) to =
      Iff.trans
      (and_iff Iff.rfl (under_choice_iff choice more to)) (
        λ h label among. ⊎_elim (λ (e : label ≡ one). rw e h.0) (λ (k : Memᴰ label more). h.1 label k) (Memᴰ.cases_cons among),
        λ h. (h one (Memᴰ.head refl), λ label k. h label (Memᴰ.tail k)),
      )

  -- the rules of the verdict are those of the table
  pub each_flow_iff : (s : ℕ) (labels : List ℕ) (to : ℕ) → (flows_each d s labels to ≡ true) ↔ EachFlow d s labels to
  unfolding flows_each
  each_flow_iff s labels to = every_choice_iff d s (λ choice. under_choice_iff choice labels to)
