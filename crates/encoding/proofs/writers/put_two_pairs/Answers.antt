use Rattle.encoding.proofs.WriterRules.{two_pairs_put}
use borrow.Author.Rules.{rules}
use Rattle.encoding.proofs.writers.put_two_pairs.Goals as goal

pub returns : goal.returns
returns c = search (two_pairs_put, rules)
