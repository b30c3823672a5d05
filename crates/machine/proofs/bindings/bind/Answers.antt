use Rattle.machine.proofs.BindingRules.{binds_none, binds_one, binds_two, first_fits, second_fits}
use borrow.Author.Rules.{rules}
use Rattle.machine.proofs.bindings.bind.Goals as goal

pub returns-then-own-eq0 : goal.returns-then-own-eq0
returns-then-own-eq0 c = search (binds_none, rules)

pub overflow_cast-area : goal.overflow_cast-area
overflow_cast-area c = search first_fits

pub returns-then-own-eq1 : goal.returns-then-own-eq1
returns-then-own-eq1 c = search (binds_one, rules)

pub overflow_cast-area-2 : goal.overflow_cast-area-2
overflow_cast-area-2 c = search second_fits

pub returns : goal.returns
returns c = search (binds_two, rules)
