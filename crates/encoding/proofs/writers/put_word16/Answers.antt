use Rattle.encoding.proofs.WriterRules.{word16_put}
use borrow.Author.Rules.{rules}
use Rattle.encoding.proofs.writers.put_word16.Goals as goal

pub returns : goal.returns
returns c = search (word16_put, rules)
