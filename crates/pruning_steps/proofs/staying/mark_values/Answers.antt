use Rattle.pruning_steps.proofs.StayingRules.{spread_laws, spread_keeps, kept_command}
use borrow.Author.Rules.{rules}
use Rattle.pruning_steps.proofs.staying.mark_values.Goals as goal

pub loop-n-init : goal.loop-n-init
loop-n-init c = search (spread_laws, rules)

pub mark_value-requires : goal.mark_value-requires
mark_value-requires c = search (kept_command, spread_keeps, rules)

pub loop-n-preserved : goal.loop-n-preserved
loop-n-preserved c = search (spread_laws, rules)
