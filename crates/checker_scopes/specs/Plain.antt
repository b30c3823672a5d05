-- A plain design: no state has a parameter, and no command and no expression has one to do with or assigns a port.
use Rattle.std.specs.Prelude.{ℕ, ◌+◌, Bool, true, ◌&&◌, not, ltb, eqb, length}
use Rattle.model.specs.Limits.{parameter_register, parameter_label}
use Rattle.model.specs.Indices.{all_below}
use Rattle.model.specs.Image.{Design as Table, Node, state_at, command_at, expression_at}
use Rattle.model.specs.States.{is_port}
use Rattle.model.specs.Kinds.{CommandKind, skips, assigns, sequences, falls, goes, branches, unknown_command, command_kind}

module _ (d : Table) where
  -- no count of parameters and no bound is set, and the label byte is a label's
  unfoldable pub plain_state : ℕ → Bool
  plain_state s =
      eqb ((state_at d s).parameters + (state_at d s).first_lower + (state_at d s).first_upper + (state_at d s).second_lower + (state_at d s).second_upper) 0
      && ltb (state_at d s).label parameter_label

  -- a register that is no port
  unfoldable pub is_inner : ℕ → Bool
  is_inner r = ltb r (length d.registers) && not (is_port d r)

  unfoldable pub plain_as : CommandKind → Node → Bool
  plain_as skips x = true
  plain_as assigns x = is_inner x.item
  plain_as sequences x = true
  plain_as falls x = true
  plain_as goes x = eqb x.a 0 && eqb x.b 0
  plain_as branches x = true
  plain_as unknown_command x = true

  unfoldable pub plain_command : ℕ → Bool
  plain_command n = plain_as (command_kind (command_at d n).kind) (command_at d n)

  unfoldable pub plain_expression : ℕ → Bool
  plain_expression e = ltb (expression_at d e).item parameter_register

  unfoldable pub plain_design : Bool
  plain_design =
      all_below plain_state (length d.states)
      && (all_below plain_command (length d.commands) && all_below plain_expression (length d.expressions))
