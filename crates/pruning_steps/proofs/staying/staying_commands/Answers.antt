use Rattle.design.proofs.Laws.{commands_most}
use Rattle.pruning_steps.proofs.StayingRules.{downward_begins, downward_more, downward_done, downward_whole, commands_are, fresh_commands, command_met}
use borrow.Author.Rules.{rules}
use Rattle.pruning_steps.proofs.staying.staying_commands.Goals as goal

pub mark_bodies-requires : goal.mark_bodies-requires
mark_bodies-requires c = search (fresh_commands, rules)

pub loop-n-init : goal.loop-n-init
loop-n-init c = search (downward_begins, commands_are, commands_most, rules)

pub mark_parts-requires : goal.mark_parts-requires
mark_parts-requires c = search (command_met, rules)

pub loop-n-preserved : goal.loop-n-preserved
loop-n-preserved c = search (downward_more, commands_are, rules)

pub returns : goal.returns
returns c = (search (downward_whole, commands_are, rules), search (downward_done, commands_are, rules))
