use Rattle.design.proofs.Laws.{commands_count, expressions_count}
use Rattle.checker_nodes.proofs.CountRules.{once_found}
use Rattle.checker.proofs.StageRules.{both_families, expression_few}
use borrow.Author.Rules.{rules}
use Rattle.checker.proofs.node_uses.Goals as goal

pub commands_first-requires : goal.commands_first-requires
commands_first-requires c = λ n e. search (expression_few, rules)

pub returns : goal.returns
returns c = search (both_families, once_found, commands_count, expressions_count, rules)
