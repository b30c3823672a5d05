use mathlib.Core.Path.{sym, ◌∙◌}
use mathlib.Core.Bool.{false≢true}
use Rattle.model.specs.Image.{design_of}
use Rattle.checker_scopes.proofs.PlainRules.{plain_states_fail, plain_commands_fail, plain_all}
use Rattle.checker_scopes.proofs.plain.plain.Goals as goal
use Rattle.checker_scopes.proofs.plain.plain.Goals.{then-plain_states, else-plain_states}

pub returns-then-plain_commands : goal.returns-then-plain_commands
returns-then-plain_commands c =
    elim c.if-plain_states.branch [
      | then-plain_states w ↦
          plain_all (design_of c.args.image.now.bytes.now) c.plain_states.ensures w.plain_commands.ensures c.plain_expressions.ensures w.if-plain_states.true (sym w.value-is ∙ c.if-plain_commands.true)
      | else-plain_states w ↦ absurd (false≢true (sym w.if-plain_states.false ∙ sym w.value-is ∙ c.if-plain_commands.true))
    ]

pub returns-else-plain_commands : goal.returns-else-plain_commands
returns-else-plain_commands c =
    c.if-plain_commands.false
    ∙ elim c.if-plain_states.branch [
      | then-plain_states w ↦
          plain_commands_fail (design_of c.args.image.now.bytes.now) c.plain_states.ensures w.plain_commands.ensures w.if-plain_states.true (sym w.value-is ∙ c.if-plain_commands.false)
      | else-plain_states w ↦ plain_states_fail (design_of c.args.image.now.bytes.now) c.plain_states.ensures w.if-plain_states.false
    ]
