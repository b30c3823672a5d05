use Rattle.checker_nodes.proofs.CountRules.{count_both}
use borrow.Author.Rules.{rules}
use Rattle.checker_nodes.proofs.uses.use_both.Goals as goal

pub returns : goal.returns
returns c = search (count_both, rules)
