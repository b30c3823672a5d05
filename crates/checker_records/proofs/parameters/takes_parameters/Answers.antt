use Rattle.checker_records.proofs.ParameterRules.{taking_laws}
use Rattle.design.proofs.Laws.{state_inside}
use borrow.Author.Rules.{rules}
use Rattle.checker_records.proofs.parameters.takes_parameters.Goals as goal

pub returns-then-s-eq0 : goal.returns-then-s-eq0
returns-then-s-eq0 c = search (taking_laws, state_inside, rules)

pub bounds-defaults-parent : goal.bounds-defaults-parent
bounds-defaults-parent c = search (taking_laws, state_inside, rules)

pub overflow_cast-result : goal.overflow_cast-result
overflow_cast-result c = search (taking_laws, state_inside, rules)

pub returns : goal.returns
returns c = search (taking_laws, state_inside, rules)
