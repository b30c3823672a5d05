-- Where every state is reached, nothing goes: every node is used, by a state or by a node of a higher number, and on the way up there is a state in the end. So every number stays
-- what it was, and the pruned design is the design.
use Prim.Native.Nat.{ℕ, ◌<◌}
use mathlib.Core.Path.{◌≡◌}
use mathlib.Core.List.Memᴰ
use native.Mathlib.Omega.{arith}
use lib.ListN.{length}
use Rattle.model.specs.Image.{Design, no_state, no_node, state_at, command_at, expression_at}
use Rattle.model.specs.Kinds.{command_kind, expression_kind}
use Rattle.model.specs.States.{parent}
use Rattle.model.specs.Nodes.{command_of, parts_of, values_of, operands_of, command_uses, expression_uses}
use Rattle.model.specs.Rules.{StructureKeeps}
use Rattle.renumbering.proofs.Parts.{part_below, operand_below, parent_exists}
use Rattle.renumbering.proofs.Kept.{all_stay, state_same, command_same, expression_same}
use Rattle.pruning_model.specs.Reached.{Reached, reached}
use Rattle.pruning_model.specs.Pruned.{command_stays, expression_stays, new_state, new_command, new_expression, pruned, state_written, command_written, expression_written}
use Rattle.pruning_model.proofs.Closing.{closed_same, written_same}
use Rattle.pruning_model.proofs.Reached.{reached_iff}
use Rattle.pruning_model.proofs.Nodes.{CommandStays, ExpressionStays, body_stays, part_stays, value_stays, operand_stays}

-- ---- the whole design
module _ (d : Design) (keeps : StructureKeeps d) (some : 0 < length d.states) (all : (s : ℕ) → s < length d.states → Reached d s) where
  pub commands_stay : (n : ℕ) → n < length d.commands → CommandStays d n
  unfolding command_uses
  commands_stay =
      all_stay
      (CommandStays d)
      (length d.states)
      (length d.commands)
      (command_of d)
      (parts_of d)
      keeps.commands_used
      (part_below d keeps)
      (λ s n l h. rw (Memᴰ.eq_of_singleton h) (body_stays d keeps some (all s l)))
      (part_stays d keeps some)

  pub expressions_stay : (n : ℕ) → n < length d.expressions → ExpressionStays d n
  unfolding expression_uses
  expressions_stay =
      all_stay
      (ExpressionStays d)
      (length d.commands)
      (length d.expressions)
      (values_of d)
      (operands_of d)
      keeps.expressions_used
      (operand_below d keeps)
      (λ n e l h. value_stays d keeps some n e (commands_stay n l) h)
      (operand_stays d keeps some)

  -- every number is what it was
  pub same_state : (s : ℕ) → s < length d.states → new_state d s ≡ s
  same_state s l = closed_same (reached d) (length d.states) (λ i k. (reached_iff d keeps some i).1 (all i k)) s (omega arith)

  pub same_command : (n : ℕ) → n < length d.commands → new_command d n ≡ n
  same_command n l = closed_same (command_stays d) (length d.commands) (λ i k. (commands_stay i k).1) n (omega arith)

  pub same_expression : (e : ℕ) → e < length d.expressions → new_expression d e ≡ e
  same_expression e l = closed_same (expression_stays d) (length d.expressions) (λ i k. (expressions_stay i k).1) e (omega arith)

  states_written : (s : ℕ) → s < length d.states → state_written d (state_at d s) ≡ state_at d s
  states_written s l =
      state_same (new_state d) (new_command d) (new_expression d) (state_at d s) (same_state (parent d s) (parent_exists d keeps s l)) (same_command (state_at d s).command (keeps.states s l).command)

  commands_written : (n : ℕ) → n < length d.commands → command_written d (command_at d n) ≡ command_at d n
  commands_written n l =
      command_same
      (new_state d)
      (new_command d)
      (new_expression d)
      d
      n
      same_expression
      same_state
      (λ m k. same_command m (omega arith))
      (command_kind (command_at d n).kind)
      (command_at d n)
      (keeps.commands n l)

  expressions_written : (n : ℕ) → n < length d.expressions → expression_written d (expression_at d n) ≡ expression_at d n
  expressions_written n l =
      expression_same
      (new_state d)
      (new_command d)
      (new_expression d)
      d
      n
      (λ m k. same_expression m (omega arith))
      (expression_kind (expression_at d n).kind)
      (expression_at d n)
      (keeps.expressions n l)

  pub pruned_same : pruned d ≡ d
  unfolding pruned
  pruned_same = λ i. record {
    rows = d.rows;
    registers = d.registers;
    states = written_same (state_written d) (reached d) d.states no_state (λ s l. (reached_iff d keeps some s).1 (all s l)) states_written i;
    commands = written_same (command_written d) (command_stays d) d.commands no_node (λ n l. (commands_stay n l).1) commands_written i;
    expressions = written_same (expression_written d) (expression_stays d) d.expressions no_node (λ n l. (expressions_stay n l).1) expressions_written i;
  }
