use Rattle.checker_records.proofs.BoundRules.{byte_laws}
use borrow.Author.Rules.{rules}
use Rattle.checker_records.proofs.bounds.most_label.Goals as goal

pub returns-then-x-lt-PARAMETER_LABEL : goal.returns-then-x-lt-PARAMETER_LABEL
returns-then-x-lt-PARAMETER_LABEL c = search (byte_laws, rules)

pub in_scope-v-requires : goal.in_scope-v-requires
in_scope-v-requires c = search (byte_laws, rules)

pub upper_bound-requires : goal.upper_bound-requires
upper_bound-requires c = search (byte_laws, rules)

pub returns : goal.returns
returns c = search (byte_laws, rules)
