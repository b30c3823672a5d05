use Rattle.encoding.proofs.WriterRules.{state_put}
use borrow.Author.Rules.{rules}
use Rattle.encoding.proofs.writers.put_state.Goals as goal

pub returns : goal.returns
returns c = search (state_put, rules)
