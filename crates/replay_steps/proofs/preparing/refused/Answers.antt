use Rattle.replay_steps.specs.Preparing.{refused_with}
use borrow.Author.Rules.{rules}
use Rattle.replay_steps.proofs.preparing.refused.Goals as goal

pub returns : goal.returns
unfolding refused_with
returns c = search rules
