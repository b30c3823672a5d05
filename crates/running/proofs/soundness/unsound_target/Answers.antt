use Rattle.running.proofs.RunningRules.{front_unsound}
use borrow.Author.Rules.{rules}
use Rattle.running.proofs.soundness.unsound_target.Goals as goal

pub returns : goal.returns
returns c = search (front_unsound, rules)
