use Rattle.checker_flow.proofs.FlowRules.{assigned_entered, assigned_gathering, assigned_label_small, assign_rule}
use borrow.Author.Rules.{rules}
use Rattle.checker_flow.proofs.flow.assign_flow.Goals as goal

pub reads-requires : goal.reads-requires
reads-requires c = search (assigned_gathering, rules)

pub label_of-label-requires : goal.label_of-label-requires
label_of-label-requires c = search (assigned_entered, rules)

pub bit-requires : goal.bit-requires
bit-requires c = search (assigned_label_small, rules)

pub returns : goal.returns
returns c = search (assign_rule, rules)
