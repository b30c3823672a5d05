use Rattle.checker_records.proofs.LatticeRules.{distinct_apart, distinct_rule}
use borrow.Author.Rules.{rules}
use Rattle.checker_records.proofs.lattice.distinct.Goals as goal

pub flows-requires : goal.flows-requires
flows-requires c = search (rules)

pub returns-then-not-flows : goal.returns-then-not-flows
returns-then-not-flows c = search (distinct_apart, rules)

pub flows-requires-2 : goal.flows-requires-2
flows-requires-2 c = search (rules)

pub returns : goal.returns
returns c = search (distinct_rule, rules)
