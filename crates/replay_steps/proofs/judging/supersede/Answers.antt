use Rattle.replay_steps.specs.Judging.{superseding}
use borrow.Author.Rules.{rules}
use Rattle.replay_steps.proofs.judging.supersede.Goals as goal

pub returns-then-before-cycle : goal.returns-then-before-cycle
unfolding superseding
returns-then-before-cycle c = search rules

pub returns : goal.returns
unfolding superseding
returns c = search rules
