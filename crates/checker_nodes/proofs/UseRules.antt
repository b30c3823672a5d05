-- The uses of a node by its kind, as they are counted, and what the tables then tell for refusal 6.
use Prim.Native.Nat.{ℕ, ◌≤◌, ◌<◌}
use mathlib.Core.Path.{◌≡◌, sym, ap}
use mathlib.Core.Logic.{◌⊎◌}
use mathlib.Core.List.{List, [], ◌∷◌, ◌++◌}
use lib.ListN.{length}
use Rattle.model.specs.Indices.{join_below}
use Rattle.model.specs.Image.{Design as Table, design_of}
use Rattle.model.specs.Nodes.{command_of, parts_of, values_of, operands_of, command_uses, expression_uses, command_used_once, expression_used_once}
use Rattle.model.proofs.Laws.Kinds.{expression_kinds}
use Rattle.design.specs.declared.Design.{Design}
use Rattle.design.specs.Records.{state_in, node_in}
use Rattle.design.specs.Describes.{Describes}
use Rattle.design.specs.RecordsAt.{CommandAt, ExpressionAt}
use Rattle.design.proofs.FieldRules.{body_is}
use Rattle.design.proofs.PartRules.{sequence_parts, branch_parts, no_parts, one_value, no_value, value_inside, operation_operands, no_operands_low, no_operands_high, body_inside}
use Rattle.checker_nodes.specs.Tables.{count_use, count_uses, Fresh, OnceWhere}
use Rattle.checker_nodes.proofs.CountRules.{counted_once}

-- ---- one use, and all of a list
use_one : (t : List ℕ) {v : List ℕ} {a : ℕ} {uses : List ℕ} → uses ≡ a ∷ [] → v ≡ count_use t a → v ≡ count_uses t uses
unfolding count_uses
use_one t e h = rw e h

use_all : (t : List ℕ) {v us uses : List ℕ} → uses ≡ us → v ≡ count_uses t us → v ≡ count_uses t uses
use_all t e h = rw e h

use_none : {t : List ℕ} {uses : List ℕ} → uses ≡ [] → t ≡ count_uses t uses
unfolding count_uses
use_none e = rw e

-- ---- a command's uses, from its kind byte
module _ {image : List ℕ} {x : Design} {place n k : ℕ} (here : CommandAt image x place n) (same : k ≡ (node_in image place n).kind) where
  pub uses_sequence :
      (t : List ℕ) {v : List ℕ} {a b : ℕ}
      → k ≡ 2
      → a ≡ (node_in image place n).a
      → b ≡ (node_in image place n).b
      → v ≡ count_uses t (a ∷ b ∷ [])
      → v ≡ count_uses t (parts_of (design_of image) n)
  uses_sequence t e p q h = use_all t (sequence_parts here same e p q) h

  pub uses_branch :
      (t : List ℕ) {v : List ℕ} {a b : ℕ}
      → k ≡ 5
      → a ≡ (node_in image place n).b
      → b ≡ (node_in image place n).c
      → v ≡ count_uses t (a ∷ b ∷ [])
      → v ≡ count_uses t (parts_of (design_of image) n)
  uses_branch t e p q h = use_all t (branch_parts here same e p q) h

  pub uses_no_part : {t : List ℕ} → (k ≡ 2 → ⊥) → (k ≡ 5 → ⊥) → t ≡ count_uses t (parts_of (design_of image) n)
  uses_no_part two five = use_none (no_parts here same two five)

  pub uses_expression : (t : List ℕ) {v : List ℕ} {a : ℕ} → (k ≡ 1) ⊎ (k ≡ 5) → a ≡ (node_in image place n).a → v ≡ count_use t a → v ≡ count_uses t (values_of (design_of image) n)
  uses_expression t e p h = use_one t (one_value here same e p) h

  pub uses_no_expression : {t : List ℕ} → ((k ≡ 1) ⊎ (k ≡ 5) → ⊥) → t ≡ count_uses t (values_of (design_of image) n)
  uses_no_expression h = use_none (no_value here same h)

-- ---- an expression's uses, from its kind byte
module _ {image : List ℕ} {x : Design} {place n k : ℕ} (here : ExpressionAt image x place n) (same : k ≡ (node_in image place n).kind) where
  pub uses_operation :
      (t : List ℕ) {v : List ℕ} {a b : ℕ}
      → 2 ≤ k
      → k < expression_kinds
      → a ≡ (node_in image place n).a
      → b ≡ (node_in image place n).b
      → v ≡ count_uses t (a ∷ b ∷ [])
      → v ≡ count_uses t (operands_of (design_of image) n)
  uses_operation t low high p q h = use_all t (operation_operands here same low high p q) h

  pub uses_low : {t : List ℕ} → k < 2 → t ≡ count_uses t (operands_of (design_of image) n)
  uses_low h = use_none (no_operands_low here same h)

  pub uses_high : {t : List ℕ} → expression_kinds ≤ k → t ≡ count_uses t (operands_of (design_of image) n)
  uses_high h = use_none (no_operands_high here same h)

-- ---- a state's use
module _ {image : List ℕ} {x : Design} (d : Describes image x) {s m : ℕ} (l : s < x.states) (same : m ≡ (state_in image x.states_at s).command) where
  pub uses_body : (t : List ℕ) {v : List ℕ} → v ≡ count_use t m → v ≡ count_uses t (command_of (design_of image) s)
  uses_body t h = use_one t (ap (λ (c : ℕ). c ∷ []) (sym (body_is d l same))) h

-- ---- refusal 6, where every record keeps its rule
module _ (d : Table) {n : ℕ} {t₀ t : List ℕ} (fresh : Fresh n t₀) where
  pub command_uses_told : t ≡ count_uses t₀ (join_below (command_of d) (length d.states) ++ join_below (parts_of d) (length d.commands)) → OnceWhere (command_used_once d) t n
  unfolding command_used_once command_uses
  command_uses_told p = counted_once _ fresh p

  pub expression_uses_told : t ≡ count_uses t₀ (join_below (values_of d) (length d.commands) ++ join_below (operands_of d) (length d.expressions)) → OnceWhere (expression_used_once d) t n
  unfolding expression_used_once expression_uses
  expression_uses_told p = counted_once _ fresh p

pub ruleset use_laws = (uses_sequence, uses_branch, uses_no_part, uses_expression, uses_no_expression, value_inside, uses_operation, uses_low, uses_high, uses_body, body_inside)
