use Rattle.replay_steps.specs.Judging.{answering}
use borrow.Author.Rules.{rules}
use Rattle.replay_steps.proofs.judging.refuse.Goals as goal

pub returns : goal.returns
unfolding answering
returns c = search rules
