use Rattle.gates.proofs.StageRules.{check_is}
use borrow.Author.Rules.{rules}
use Rattle.gates.proofs.check.Goals as goal

pub returns : goal.returns
returns c = search (check_is, rules)
