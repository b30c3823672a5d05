use Rattle.checker_records.proofs.LatticeRules.{label_laws}
use borrow.Author.Rules.{rules}
use Rattle.checker_records.proofs.lattice.label_kept.Goals as goal

pub returns-then-not-row_inside : goal.returns-then-not-row_inside
returns-then-not-row_inside c = search (label_laws, rules)

pub flows-requires : goal.flows-requires
flows-requires c = search (rules)

pub returns-then-not-flows : goal.returns-then-not-flows
returns-then-not-flows c = search (label_laws, rules)

pub returns-then-not-antisymmetric : goal.returns-then-not-antisymmetric
returns-then-not-antisymmetric c = search (label_laws, rules)

pub returns-then-not-transitive : goal.returns-then-not-transitive
returns-then-not-transitive c = search (label_laws, rules)

pub returns-then-not-least_full : goal.returns-then-not-least_full
returns-then-not-least_full c = search (label_laws, rules)

pub returns : goal.returns
returns c = search (label_laws, rules)
