use Rattle.encoding.proofs.WriterRules.{byte_put}
use borrow.Author.Rules.{rules}
use Rattle.encoding.proofs.writers.put_byte.Goals as goal

pub returns : goal.returns
returns c = search (byte_put, rules)
