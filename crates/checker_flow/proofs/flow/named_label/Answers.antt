use Rattle.checker_flow.proofs.FlowKinds.{named_inside, goes_plain, first_entered, second_entered, goes_first, goes_second}
use borrow.Author.Rules.{rules}
use Rattle.checker_flow.proofs.flow.named_label.Goals as goal

pub state_label-label-requires : goal.state_label-label-requires
state_label-label-requires c = search (named_inside, rules)

pub returns-then-label-own_from : goal.returns-then-label-own_from
returns-then-label-own_from c = search (goes_plain, rules)

pub label_of-requires : goal.label_of-requires
label_of-requires c = search (first_entered, rules)

pub returns-then-label-own_from-2 : goal.returns-then-label-own_from-2
returns-then-label-own_from-2 c = search (goes_first, rules)

pub label_of-requires-2 : goal.label_of-requires-2
label_of-requires-2 c = search (second_entered, rules)

pub returns : goal.returns
returns c = search (goes_second, rules)
