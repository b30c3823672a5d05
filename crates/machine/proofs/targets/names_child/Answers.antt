use Rattle.design.proofs.ResetRules.{behind_no_child}
use borrow.Author.Rules.{rules}
use Rattle.machine.proofs.targets.names_child.Goals as goal

pub returns : goal.returns
returns c = search (behind_no_child, rules)
