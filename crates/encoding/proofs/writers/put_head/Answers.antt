use Rattle.encoding.proofs.WriterRules.{head_put}
use borrow.Author.Rules.{rules}
use Rattle.encoding.proofs.writers.put_head.Goals as goal

pub returns : goal.returns
returns c = search (head_put, rules)
