use Rattle.encoding.proofs.WriterRules.{node_put}
use borrow.Author.Rules.{rules}
use Rattle.encoding.proofs.writers.put_node.Goals as goal

pub returns : goal.returns
returns c = search (node_put, rules)
