use Rattle.design.proofs.Laws.{state_inside}
use Rattle.design.proofs.StateRules.{is_child_rule}
use borrow.Author.Rules.{rules}
use Rattle.design.proofs.states.is_child.Goals as goal

pub parent-requires : goal.parent-requires
parent-requires c = search (state_inside, rules)

pub returns : goal.returns
returns c = search (is_child_rule, rules)
