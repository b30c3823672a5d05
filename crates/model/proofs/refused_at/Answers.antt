use Rattle.model.specs.Verdict.{refused_at}
use borrow.Author.Rules.{rules}
use Rattle.model.proofs.refused_at.Goals as goal

pub returns-in-Some : goal.returns-in-Some
unfolding refused_at
returns-in-Some c = search rules

pub returns-in-None : goal.returns-in-None
unfolding refused_at
returns-in-None c = search rules
