use borrow.Author.Rules.{rules}
use Rattle.gates.proofs.AreaRules.{start_whole}
use Rattle.gates.proofs.changes.start.Goals as goal

pub returns : goal.returns
returns c = search (start_whole, rules)
