use Rattle.encoding.proofs.WriterRules.{bounds_put}
use borrow.Author.Rules.{rules}
use Rattle.encoding.proofs.writers.put_bounds.Goals as goal

pub returns : goal.returns
returns c = search (bounds_put, rules)
