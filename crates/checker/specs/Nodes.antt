-- The four tables that the loops over the nodes fill, as the loops leave them.
use Rattle.std.specs.Prelude.{List, ◌++◌, ℕ, length}
use Rattle.model.specs.Indices.{lowest_failing, passed, join_below, filled_to}
use Rattle.model.specs.Image.{Design}
use Rattle.model.specs.Kinds.{command_kept, expression_kept}
use Rattle.model.specs.Trees.{expr_of, cmd_of, expr_depth, cmd_depth}
use Rattle.model.specs.Nodes.{command_of, parts_of, values_of, operands_of}
use Rattle.checker_nodes.specs.Tables.{depth_entry, count_uses}

-- the four tables of the nodes
pub record NodeTables : Type 0 where
  pub command_uses : List ℕ
  pub expression_uses : List ℕ
  pub command_depths : List ℕ
  pub expression_depths : List ℕ

abbrev pub node_tables : List ℕ → List ℕ → List ℕ → List ℕ → NodeTables
node_tables command_uses expression_uses command_depths expression_depths =
    record { command_uses = command_uses; expression_uses = expression_uses; command_depths = command_depths; expression_depths = expression_depths }

-- what the loops over the nodes leave of them; each loop ends at the first record that breaks its rule
unfoldable pub nodes_left : Design → NodeTables → NodeTables
nodes_left d t =
    let c = passed (lowest_failing (command_kept d) (length d.commands)) (length d.commands) in
    let e = passed (lowest_failing (expression_kept d) (length d.expressions)) (length d.expressions) in
    record {
      command_uses = count_uses t.command_uses (join_below (command_of d) (length d.states) ++ join_below (parts_of d) c);
      expression_uses = count_uses t.expression_uses (join_below (values_of d) c ++ join_below (operands_of d) e);
      command_depths = filled_to (λ k. depth_entry (cmd_depth (cmd_of d k))) c t.command_depths;
      expression_depths = filled_to (λ k. depth_entry (expr_depth (expr_of d k))) e t.expression_depths;
    }
