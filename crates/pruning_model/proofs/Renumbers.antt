-- The pruned design is the design under the numbers closed up, with the states that are reached and the nodes that stay: what is written anew is what stays, each record once, and
-- all that a record which stays names stays with it.
use Prim.Native.Nat.{ℕ, ◌<◌}
use mathlib.Core.Path.{◌≡◌, refl}
use mathlib.Core.Bool.{true}
use native.Mathlib.Decide.{ℕ_discrete}
use lib.ListN.{length}
use Rattle.model.specs.Image.{Design, no_state, no_node}
use Rattle.model.specs.States.{parent}
use Rattle.model.specs.Rules.{StructureKeeps}
use Rattle.renumbering.specs.Renumbers.{Renumbers}
use Rattle.renumbering.proofs.Parts.{part_below, operand_below}
use Rattle.pruning_model.specs.Reached.{Reached, root, fallen, reached}
use Rattle.pruning_model.specs.Pruned.{command_stays, expression_stays, new_state, new_command, new_expression, pruned, state_written, command_written, expression_written}
use Rattle.pruning_model.proofs.Closing.{closed_zero, closed_order, closed_apart, written_new, written_all, written_fewer, written_is}
use Rattle.pruning_model.proofs.Reached.{reached_state, reached_parent, reached_iff}
use Rattle.pruning_model.proofs.Nodes.{CommandStays, ExpressionStays, body_stays, part_stays, command_used, value_stays, operand_stays, expression_used, named_reached}

module _ (d : Design) (keeps : StructureKeeps d) (some : 0 < length d.states) where
  parent_reached : (s : ℕ) → Reached d s → Reached d (parent d s)
  parent_reached s h = go (ℕ_discrete s 0)
    where
      go : Dec (s ≡ 0) → Reached d (parent d s)
      go (yes e) = rw ((keeps.states s (reached_state d keeps some h)).root_parent e) root
      go (no e) = (reached_parent d keeps some h e).0

  pub pruned_renumbers : Renumbers d (pruned d) (new_state d) (new_command d) (new_expression d) (Reached d) (CommandStays d) (ExpressionStays d)
  unfolding pruned
  pruned_renumbers =
      let is : (s : ℕ) → Reached d s → reached d s ≡ true = λ s. (reached_iff d keeps some s).1 in
      record {
        rows = refl;
        registers = refl;
        states_old = λ s. reached_state d keeps some;
        states_new = λ s h. written_new (state_written d) (reached d) d.states s (reached_state d keeps some h) (is s h);
        states_all = λ t l. let (s, below, h, e) = written_all (state_written d) (reached d) d.states t l in (s, (reached_iff d keeps some s).0 h, e);
        states_order = λ s t h k l. closed_order (reached d) s t (is s h) l;
        states_fewer = written_fewer (state_written d) (reached d) d.states;
        state_is = λ s h. written_is (state_written d) (reached d) d.states s no_state no_state (reached_state d keeps some h) (is s h);
        root_stays = root;
        root_first = closed_zero (reached d);
        parent_stays = parent_reached;
        default_beside = λ s q h other child.
            let (above, falls) = reached_parent d keeps some h other in
            fallen above (reached_state d keeps some above) falls child;
        default_stays = λ s q h f child. fallen h (reached_state d keeps some h) f child;
        body_stays = λ s. body_stays d keeps some;
        commands_old = λ n h. h.0;
        commands_new = λ n h. written_new (command_written d) (command_stays d) d.commands n h.0 h.1;
        commands_all = λ m l. let (n, below, h, e) = written_all (command_written d) (command_stays d) d.commands m l in (n, (below, h), e);
        commands_apart = λ n m h k. closed_apart (command_stays d) n m h.1 k.1;
        commands_fewer = written_fewer (command_written d) (command_stays d) d.commands;
        command_is = λ n h. written_is (command_written d) (command_stays d) d.commands n no_node no_node h.0 h.1;
        parts_stay = part_stays d keeps some;
        parts_below = λ n p h k. closed_order (command_stays d) p n (part_stays d keeps some n p h k).1 (part_below d keeps n p h.0 k);
        values_stay = value_stays d keeps some;
        named_stays = named_reached d keeps some;
        command_used = command_used d keeps some;
        expressions_old = λ n h. h.0;
        expressions_new = λ n h. written_new (expression_written d) (expression_stays d) d.expressions n h.0 h.1;
        expressions_all = λ m l. let (n, below, h, e) = written_all (expression_written d) (expression_stays d) d.expressions m l in (n, (below, h), e);
        expressions_apart = λ n m h k. closed_apart (expression_stays d) n m h.1 k.1;
        expressions_fewer = written_fewer (expression_written d) (expression_stays d) d.expressions;
        expression_is = λ n h. written_is (expression_written d) (expression_stays d) d.expressions n no_node no_node h.0 h.1;
        operands_stay = operand_stays d keeps some;
        operands_below = λ n p h k. closed_order (expression_stays d) p n (operand_stays d keeps some n p h k).1 (operand_below d keeps n p h.0 k);
        expression_used = expression_used d keeps some;
      }
