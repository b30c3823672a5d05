-- 01: "Every node is used exactly once: by a state, or as one part of another node", and the depth of nodes. Refusals 6 and 7.
use Rattle.std.specs.Prelude.{ℕ, Bool, List, [], ◌∷◌, ◌++◌, leb, eqb, length}
use Rattle.model.specs.Limits.{depth_max}
use Rattle.model.specs.Indices.{occurrences, join_below}
use Rattle.model.specs.Image.{Design, Node, command_at, expression_at, state_at}
use Rattle.model.specs.Kinds.{CommandKind, skips, assigns, sequences, falls, goes, branches, unknown_command, ExpressionKind, constants, reads, unknown_expression, operates, command_kind, expression_kind}
use Rattle.model.specs.Trees.{expr_of, cmd_of, expr_depth, cmd_depth}

-- the commands that a command has as parts
unfoldable pub command_parts : CommandKind → Node → List ℕ
command_parts skips x = []
command_parts assigns x = []
command_parts sequences x = x.a ∷ x.b ∷ []
command_parts falls x = []
command_parts goes x = []
command_parts branches x = x.b ∷ x.c ∷ []
command_parts unknown_command x = []

-- the expressions that a command has as parts
unfoldable pub expressions_of : CommandKind → Node → List ℕ
expressions_of skips x = []
expressions_of assigns x = x.a ∷ []
expressions_of sequences x = []
expressions_of falls x = []
expressions_of goes x = []
expressions_of branches x = x.a ∷ []
expressions_of unknown_command x = []

-- the expressions that an expression has as parts
unfoldable pub expression_parts : ExpressionKind → Node → List ℕ
expression_parts constants x = []
expression_parts reads x = []
expression_parts (operates o) x = x.a ∷ x.b ∷ []
expression_parts unknown_expression x = []

-- what the records of a design use: state s its command, command n commands and expressions, and expression n expressions
abbrev pub command_of : Design → ℕ → List ℕ
command_of d s = (state_at d s).command ∷ []

abbrev pub parts_of : Design → ℕ → List ℕ
parts_of d n = command_parts (command_kind (command_at d n).kind) (command_at d n)

abbrev pub values_of : Design → ℕ → List ℕ
values_of d n = expressions_of (command_kind (command_at d n).kind) (command_at d n)

abbrev pub operands_of : Design → ℕ → List ℕ
operands_of d n = expression_parts (expression_kind (expression_at d n).kind) (expression_at d n)

module _ (d : Design) where
  -- every use of a command, by a state or by a command
  unfoldable pub command_uses : List ℕ
  command_uses = join_below (command_of d) (length d.states) ++ join_below (parts_of d) (length d.commands)

  -- every use of an expression, by a command or by an expression
  unfoldable pub expression_uses : List ℕ
  expression_uses = join_below (values_of d) (length d.commands) ++ join_below (operands_of d) (length d.expressions)

  -- refusal 6: "node not used exactly once"
  unfoldable pub command_used_once : ℕ → Bool
  command_used_once n = eqb (occurrences n command_uses) 1

  unfoldable pub expression_used_once : ℕ → Bool
  expression_used_once n = eqb (occurrences n expression_uses) 1

  -- refusal 7: "depth above 64"
  unfoldable pub command_depth_kept : ℕ → Bool
  command_depth_kept n = leb (cmd_depth (cmd_of d n)) depth_max

  unfoldable pub expression_depth_kept : ℕ → Bool
  expression_depth_kept n = leb (expr_depth (expr_of d n)) depth_max
