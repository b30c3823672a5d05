use Rattle.checker_scopes.proofs.PlainRules.{plain_expression_rule}
use borrow.Author.Rules.{rules}
use Rattle.checker_scopes.proofs.plain.plain_expression.Goals as goal

pub returns : goal.returns
returns c = search (plain_expression_rule, rules)
