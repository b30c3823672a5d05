use Rattle.encoding.proofs.WriterRules.{parameters_put}
use borrow.Author.Rules.{rules}
use Rattle.encoding.proofs.writers.put_parameters.Goals as goal

pub returns : goal.returns
returns c = search (parameters_put, rules)
