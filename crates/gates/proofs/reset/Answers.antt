use Rattle.gates.proofs.StageRules.{refused_reset, accepted_reset, accepted_directory}
use borrow.Author.Rules.{rules}
use Rattle.gates.proofs.reset.Goals as goal

pub read-requires : goal.read-requires
read-requires c = let was = c.in_ok-verdict.was in search (accepted_directory, rules)

pub returns-in_err-verdict : goal.returns-in_err-verdict
returns-in_err-verdict c = search (refused_reset, rules)

pub returns : goal.returns
returns c = let same = rw c.read.ensures at c.reset.ensures in search (accepted_reset, rules)
