use Rattle.checker_nodes.proofs.CountRules.{count_one}
use borrow.Author.Rules.{rules}
use Rattle.checker_nodes.proofs.uses.use_node.Goals as goal

pub returns : goal.returns
returns c = search (count_one, rules)
