use Rattle.checker_records.proofs.RecordRules.{above_laws}
use borrow.Author.Rules.{rules}
use Rattle.checker_records.proofs.states.label_above.Goals as goal

pub state_label-from-requires : goal.state_label-from-requires
state_label-from-requires c = search (above_laws, rules)

pub flows_each-requires : goal.flows_each-requires
flows_each-requires c = search (above_laws, rules)

pub returns : goal.returns
returns c = search (above_laws, rules)
