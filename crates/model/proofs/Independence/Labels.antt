-- Labels at a level: what flows to a label that is seen is seen. Only the transitivity of "flows to" is used, so labels that cannot be compared are
-- covered by themselves.
use Prim.Native.Nat.{ℕ, ◌<◌}
use mathlib.Core.Path.{◌≡◌, refl, ap}
use mathlib.Core.Bool.{true, false}
use mathlib.Core.List.{List, [], ◌∷◌, map}
use native.Mathlib.Omega.{arith}
use native.Mathlib.Decide.{dec_lt}
use lib.ListN.{length, get_or-eq_default}
use Rattle.model.specs.Image.{Design, Register}
use Rattle.model.specs.Lattice.{flows_to, all_flow_to, register_label}
use Rattle.model.specs.Trees.{Expr, registers_read}
use Rattle.model.specs.Rules.{FlowsTo}
use Rattle.model.proofs.Laws.Booleans.{and_first, and_second, and_both, false_unless_true, true_or_false}
use Rattle.model.proofs.Laws.Joins.{AreLabels}
use Rattle.model.proofs.Independence.Instances.{AcceptedDesign, read_labels}

-- ---- a level
module _ (d : Design) (level : ℕ) (keeps : AcceptedDesign d) (is_label : level < length d.rows) where
  -- a label that is at or below the level
  abbrev pub Seen : ℕ → Type 0
  Seen l = FlowsTo d.rows l level

  -- what flows to a label that is seen is seen
  pub seen_below : (a b : ℕ) → a < length d.rows → b < length d.rows → FlowsTo d.rows a b → Seen b → Seen a
  seen_below a b la lb f s = keeps.structure.lattice.transitive a b level la lb is_label f s

  -- what a label that is not seen flows to is not seen
  pub unseen_above : (a b : ℕ) → a < length d.rows → b < length d.rows → FlowsTo d.rows a b → flows_to d.rows a level ≡ false → flows_to d.rows b level ≡ false
  unseen_above a b la lb f u = false_unless_true (flows_to d.rows b level) (λ s. true_or_false (flows_to d.rows a level) (seen_below a b la lb f s) u)

  -- a context that flows to a label that is seen is seen
  pub context_seen : (context : List ℕ) (l : ℕ) → AreLabels d.rows context → l < length d.rows → all_flow_to d.rows context l ≡ true → Seen l → all_flow_to d.rows context level ≡ true
  unfolding all_flow_to
  context_seen [] l labels k h s = refl
  context_seen (x ∷ xs) l labels k h s =
      and_both
      (flows_to d.rows x level)
      (all_flow_to d.rows xs level)
      (seen_below x l labels.0 k (and_first (flows_to d.rows x l) (all_flow_to d.rows xs l) h) s)
      (context_seen xs l labels.1 k (and_second (flows_to d.rows x l) (all_flow_to d.rows xs l) h) s)

  -- what a context that is not seen flows to is not seen
  pub context_unseen : (context : List ℕ) (l : ℕ) → AreLabels d.rows context → l < length d.rows → all_flow_to d.rows context l ≡ true → all_flow_to d.rows context level ≡ false → flows_to d.rows l level ≡ false
  context_unseen context l labels k h u =
      false_unless_true (flows_to d.rows l level) (λ s. true_or_false (all_flow_to d.rows context level) (context_seen context l labels k h s) u)

  -- every register's label is one of the labels; past the end it is label 0
  pub register_label_lem : (r : ℕ) → register_label d r < length d.rows
  register_label_lem r = go (dec_lt r (length d.registers))
    where
      go : Dec (r < length d.registers) → register_label d r < length d.rows
      go (yes h) = (keeps.structure.registers r h).label
      go (no h) =
          let past : register_label d r ≡ 0 = ap (λ (x : Register). x.label) (get_or-eq_default d.registers _ {n = r} (omega arith)) in
          omega arith

  labels_of_lem : (rs : List ℕ) → AreLabels d.rows (map (register_label d) rs)
  labels_of_lem [] = tt
  labels_of_lem (r ∷ rs) = (register_label_lem r, labels_of_lem rs)

  pub labels_read_lem : (e : Expr) → AreLabels d.rows (read_labels d e)
  unfolding read_labels
  labels_read_lem e = labels_of_lem (registers_read e)
