use Rattle.replay_steps.specs.Judging.{unordered_at}
use borrow.Author.Rules.{rules}
use Rattle.replay_steps.proofs.judging.refuse_order.Goals as goal

pub returns : goal.returns
unfolding unordered_at
returns c = search rules
