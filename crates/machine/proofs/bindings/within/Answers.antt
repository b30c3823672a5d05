use Rattle.machine.proofs.BindingRules.{label_below, lower_below, upper_below, within_rule}
use borrow.Author.Rules.{rules}
use Rattle.machine.proofs.bindings.within.Goals as goal

pub flows-requires : goal.flows-requires
flows-requires c = search (label_below, lower_below, rules)

pub flows-requires-2 : goal.flows-requires-2
flows-requires-2 c = search (label_below, upper_below, rules)

pub returns : goal.returns
returns c = search (within_rule, rules)
