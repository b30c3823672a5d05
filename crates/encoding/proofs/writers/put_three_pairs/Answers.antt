use Rattle.encoding.proofs.WriterRules.{three_pairs_put}
use borrow.Author.Rules.{rules}
use Rattle.encoding.proofs.writers.put_three_pairs.Goals as goal

pub returns : goal.returns
returns c = search (three_pairs_put, rules)
