use Rattle.design.proofs.ResetRules.{states_few, fresh_defaults}
use Rattle.pruning_steps.proofs.ReachingRules.{reaching_begins, reaching_long, waiting_state, reaching_more, reaching_less, reaching_ends, reaching_whole}
use borrow.Author.Rules.{rules}
use Rattle.pruning_steps.proofs.reaching.reached_states.Goals as goal

pub default_targets-requires : goal.default_targets-requires
default_targets-requires c = search (states_few, rules)

pub loop-s-init : goal.loop-s-init
loop-s-init c = (search (reaching_begins, rules), search (fresh_defaults, rules))

pub waiting-requires : goal.waiting-requires
waiting-requires c = search (reaching_long, rules)

pub go_through-requires : goal.go_through-requires
go_through-requires c = search (waiting_state, reaching_long, rules)

pub loop-s-smaller : goal.loop-s-smaller
loop-s-smaller c = search (reaching_less, rules)

pub loop-s-preserved : goal.loop-s-preserved
loop-s-preserved c = (search (reaching_more, rules), search rules)

pub returns : goal.returns
returns c = (search (reaching_whole, rules), search (reaching_ends, rules))
