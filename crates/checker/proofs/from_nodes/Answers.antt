use Rattle.design.proofs.Laws.{commands_most, expressions_most}
use Rattle.checker.proofs.StageRules.{few_commands, few_expressions}
use borrow.Author.Rules.{rules}
use Rattle.checker.proofs.from_nodes.Goals as goal

pub from_sized-requires : goal.from_sized-requires
from_sized-requires c = (search rules, search rules, search rules, search few_commands, search rules, search few_expressions, search rules)

pub from_sized-requires-2 : goal.from_sized-requires-2
from_sized-requires-2 c = (search rules, search rules, search rules, search commands_most, search rules, search expressions_most, search rules)
