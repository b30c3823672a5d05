use Rattle.model.specs.Calls.{check}
use borrow.Author.Rules.{rules}
use Rattle.calls.proofs.check.Goals as goal

pub returns : goal.returns
unfolding check
returns c = search rules
