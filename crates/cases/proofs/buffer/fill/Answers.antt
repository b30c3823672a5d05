use Rattle.cases.proofs.Buffers.{rest_stays}
use borrow.Author.Rules.{rules}
use Rattle.cases.proofs.buffer.fill.Goals as goal

pub returns : goal.returns
returns c = search (rest_stays, rules)
