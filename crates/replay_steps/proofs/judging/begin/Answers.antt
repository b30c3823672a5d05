use Rattle.replay_steps.specs.Judging.{judging_of}
use borrow.Author.Rules.{rules}
use Rattle.replay_steps.proofs.judging.begin.Goals as goal

pub returns : goal.returns
unfolding judging_of
returns c = search rules
