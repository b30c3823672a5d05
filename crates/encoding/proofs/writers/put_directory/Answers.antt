use Rattle.encoding.proofs.WriterRules.{directory_put}
use borrow.Author.Rules.{rules}
use Rattle.encoding.proofs.writers.put_directory.Goals as goal

pub returns : goal.returns
returns c = search (directory_put, rules)
