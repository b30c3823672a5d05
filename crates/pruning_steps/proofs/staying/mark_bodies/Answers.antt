use Rattle.pruning_steps.proofs.StayingRules.{spread_laws}
use borrow.Author.Rules.{rules}
use Rattle.pruning_steps.proofs.staying.mark_bodies.Goals as goal

pub loop-s-init : goal.loop-s-init
loop-s-init c = search (spread_laws, rules)

pub loop-s-preserved : goal.loop-s-preserved
loop-s-preserved c = search (spread_laws, rules)
