use Rattle.design.proofs.ResetRules.{filled_none, filled_within}
use Rattle.pruning_steps.proofs.NumberingRules.{closed_begins, closed_next, closed_fits, closed_whole, numbers_filled, numbered_whole}
use borrow.Author.Rules.{rules}
use Rattle.pruning_steps.proofs.numbering.close_up.Goals as goal

pub loop-k-init : goal.loop-k-init
loop-k-init c = search (filled_none, closed_begins, rules)

pub overflow_cast-numbers : goal.overflow_cast-numbers
overflow_cast-numbers c = search (closed_fits, rules)

pub one_more-next-requires : goal.one_more-next-requires
one_more-next-requires c = search (closed_fits, rules)

pub loop-k-preserved : goal.loop-k-preserved
loop-k-preserved c = search (filled_within, closed_next, rules)

pub returns : goal.returns
returns c = search (closed_whole, numbers_filled, numbered_whole, rules)
