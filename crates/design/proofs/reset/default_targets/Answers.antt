use Rattle.design.proofs.Laws.{state_inside}
use Rattle.design.proofs.ResetRules.{states_few, state_fits, defaults_begin, below_inside, put_inside, defaults_more, defaults_long, defaults_done}
use borrow.Author.Rules.{rules}
use Rattle.design.proofs.reset.default_targets.Goals as goal

pub own_numbers-requires : goal.own_numbers-requires
own_numbers-requires c = search (states_few, rules)

pub loop-s-init : goal.loop-s-init
loop-s-init c = search (defaults_begin, rules)

pub parent-p-requires : goal.parent-p-requires
parent-p-requires c = search (state_inside, below_inside, rules)

pub overflow_cast-table : goal.overflow_cast-table
overflow_cast-table c = search (state_fits, below_inside, rules)

pub bounds-table-p : goal.bounds-table-p
bounds-table-p c = search (put_inside, rules)

pub loop-s-preserved : goal.loop-s-preserved
loop-s-preserved c = search (defaults_more, rules)

pub shape_of-table : goal.shape_of-table
shape_of-table c = search (defaults_long, rules)

pub returns : goal.returns
returns c = search (defaults_done, rules)
