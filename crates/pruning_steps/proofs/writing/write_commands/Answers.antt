use mathlib.Core.Path.{◌∙◌}
use Rattle.pruning_steps.proofs.WritingRules.{commands_none, written_room, command_here, commands_one, commands_past, commands_whole}
use borrow.Author.Rules.{rules}
use Rattle.pruning_steps.proofs.writing.write_commands.Goals as goal
use Rattle.pruning_steps.proofs.writing.write_commands.Goals.{then-commands-n-eq1, else-commands-n-eq1}

pub loop-n-init : goal.loop-n-init
loop-n-init c = search (commands_none, rules)

pub write_command-requires : goal.write_command-requires
write_command-requires c = search (written_room, command_here, rules)

pub loop-n-preserved : goal.loop-n-preserved
loop-n-preserved c =
    elim c.if-commands-n-eq1.branch [
      | then-commands-n-eq1 w ↦ commands_one c.args.image.now.bytes.now c.args.image.now.design c.loop-n.invariant w.if-commands-n-eq1.true w.place-is (w.out-is ∙ w.write_command.ensures) c.loop-n-test.true
      | else-commands-n-eq1 w ↦ commands_past c.args.image.now.bytes.now c.args.image.now.design c.loop-n.invariant w.if-commands-n-eq1.false w.place-is w.out-is c.loop-n-test.true
    ]

pub returns : goal.returns
returns c = search (commands_whole, rules)
