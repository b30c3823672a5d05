use Rattle.encoding.proofs.WriterRules.{pair_put}
use borrow.Author.Rules.{rules}
use Rattle.encoding.proofs.writers.put_pair.Goals as goal

pub returns : goal.returns
returns c = search (pair_put, rules)
