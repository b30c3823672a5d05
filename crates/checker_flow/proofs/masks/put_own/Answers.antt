use Rattle.checker_flow.specs.Masks.{with_own}
use borrow.Author.Rules.{rules}
use Rattle.checker_flow.proofs.masks.put_own.Goals as goal

pub returns : goal.returns
unfolding with_own
returns c = search rules
