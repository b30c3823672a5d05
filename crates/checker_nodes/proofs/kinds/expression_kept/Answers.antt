use Rattle.checker_nodes.proofs.NodeRules.{expression_rules}
use borrow.Author.Rules.{rules}
use Rattle.checker_nodes.proofs.kinds.expression_kept.Goals as goal

pub returns-in-0 : goal.returns-in-0
returns-in-0 c = search (expression_rules, rules)

pub returns-in-1 : goal.returns-in-1
returns-in-1 c = search (expression_rules, rules)

pub returns-in-2-to-11 : goal.returns-in-2-to-11
returns-in-2-to-11 c = search (expression_rules, rules)

pub returns-in_default : goal.returns-in_default
returns-in_default c = search (expression_rules, rules)
