use Rattle.checker_records.proofs.BoundRules.{each_laws}
use borrow.Author.Rules.{rules}
use Rattle.checker_records.proofs.bounds.flows_each.Goals as goal

pub returns-then-x-y : goal.returns-then-x-y
returns-then-x-y c = search (each_laws, rules)

pub flows-requires : goal.flows-requires
flows-requires c = search (each_laws, rules)

pub returns : goal.returns
returns c = search (each_laws, rules)
