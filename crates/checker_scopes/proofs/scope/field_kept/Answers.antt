use Rattle.checker_scopes.proofs.ArgumentRules.{field_rules}
use borrow.Author.Rules.{rules}
use Rattle.checker_scopes.proofs.scope.field_kept.Goals as goal

pub parameters-count-requires : goal.parameters-count-requires
parameters-count-requires c = search (field_rules, rules)

pub argument_kept-requires : goal.argument_kept-requires
argument_kept-requires c = search (field_rules, rules)

pub returns-then-j-count : goal.returns-then-j-count
returns-then-j-count c = search (field_rules, rules)

pub returns : goal.returns
returns c = search (field_rules, rules)
