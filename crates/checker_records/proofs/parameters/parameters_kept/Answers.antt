use Rattle.checker_records.proofs.ParameterRules.{parameters_rule}
use Rattle.design.proofs.ScopeRules.{count_is}
use borrow.Author.Rules.{rules}
use Rattle.checker_records.proofs.parameters.parameters_kept.Goals as goal

pub label_in_scope-requires : goal.label_in_scope-requires
label_in_scope-requires c = search (parameters_rule, count_is, rules)

pub returns : goal.returns
returns c = search (parameters_rule, count_is, rules)
