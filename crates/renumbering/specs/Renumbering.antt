-- Records and trees under new numbers: one function from old to new numbers for states, one for commands and one for expressions. Numbers of labels and registers stay, and so do
-- a goto's arguments, which are registers or parameters.
use Rattle.std.specs.Prelude.{ℕ}
use Rattle.model.specs.Image.{State, Node}
use Rattle.model.specs.Kinds.{CommandKind, skips, assigns, sequences, falls, goes, branches, unknown_command, ExpressionKind, constants, reads, unknown_expression, operates}
use Rattle.model.specs.Trees.{Expr, constant, register, binary, Cmd, skip, assign, sequence, fall, goto, branch}

-- a state with another parent and another command
abbrev pub with_parts : ℕ → ℕ → State → State
with_parts parent command x =
    record {
      parent = parent;
      label = x.label;
      command = command;
      parameters = x.parameters;
      first_lower = x.first_lower;
      first_upper = x.first_upper;
      second_lower = x.second_lower;
      second_upper = x.second_upper;
    }

module _ (state command expression : ℕ → ℕ) where
  unfoldable pub renumbered_state : State → State
  renumbered_state x = with_parts (state x.parent) (command x.command) x

  unfoldable pub renumbered_command : CommandKind → Node → Node
  renumbered_command skips x = x
  renumbered_command assigns x = record { kind = x.kind; item = x.item; a = expression x.a; b = x.b; c = x.c }
  renumbered_command sequences x = record { kind = x.kind; item = x.item; a = command x.a; b = command x.b; c = x.c }
  renumbered_command falls x = x
  renumbered_command goes x = record { kind = x.kind; item = state x.item; a = x.a; b = x.b; c = x.c }
  renumbered_command branches x = record { kind = x.kind; item = x.item; a = expression x.a; b = command x.b; c = command x.c }
  renumbered_command unknown_command x = x

  unfoldable pub renumbered_expression : ExpressionKind → Node → Node
  renumbered_expression constants x = x
  renumbered_expression reads x = x
  renumbered_expression (operates o) x = record { kind = x.kind; item = x.item; a = expression x.a; b = expression x.b; c = x.c }
  renumbered_expression unknown_expression x = x

  -- the tree of an expression, and of a command
  unfoldable pub renumbered_expr : Expr → Expr
  renumbered_expr (constant v) = constant v
  renumbered_expr (register n r) = register (expression n) r
  renumbered_expr (binary o p q) = binary o (renumbered_expr p) (renumbered_expr q)

  unfoldable pub renumbered_cmd : Cmd → Cmd
  renumbered_cmd (skip n) = skip (command n)
  renumbered_cmd (assign n r e) = assign (command n) r (renumbered_expr e)
  renumbered_cmd (sequence n p q) = sequence (command n) (renumbered_cmd p) (renumbered_cmd q)
  renumbered_cmd (fall n) = fall (command n)
  renumbered_cmd (goto n t a b) = goto (command n) (state t) a b
  renumbered_cmd (branch n e p q) = branch (command n) (renumbered_expr e) (renumbered_cmd p) (renumbered_cmd q)
