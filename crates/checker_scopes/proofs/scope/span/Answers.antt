use Rattle.checker_scopes.proofs.ArgumentRules.{label_rules}
use borrow.Author.Rules.{rules}
use Rattle.checker_scopes.proofs.scope.span.Goals as goal

pub register_label-label-requires : goal.register_label-label-requires
register_label-label-requires c = search (label_rules, rules)

pub returns-then-r-lt-PARAMETER_REGISTER : goal.returns-then-r-lt-PARAMETER_REGISTER
returns-then-r-lt-PARAMETER_REGISTER c = search (label_rules, rules)

pub in_scope-v-requires : goal.in_scope-v-requires
in_scope-v-requires c = search (label_rules, rules)

pub lower_bound-requires : goal.lower_bound-requires
lower_bound-requires c = search (label_rules, rules)

pub upper_bound-requires : goal.upper_bound-requires
upper_bound-requires c = search (label_rules, rules)

pub returns : goal.returns
returns c = search (label_rules, rules)
