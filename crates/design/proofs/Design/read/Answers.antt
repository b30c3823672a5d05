use Rattle.design.proofs.Laws.{describes}
use borrow.Author.Rules.{rules}
use Rattle.design.proofs.Design.read.Goals as goal

pub returns : goal.returns
returns c = search (describes, rules)
