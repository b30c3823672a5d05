use Rattle.encoding.proofs.WriterRules.{bytes_put}
use borrow.Author.Rules.{rules}
use Rattle.encoding.proofs.writers.put_bytes.Goals as goal

pub returns : goal.returns
returns c = search (bytes_put, rules)
