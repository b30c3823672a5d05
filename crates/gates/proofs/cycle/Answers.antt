use Rattle.gates.proofs.StageRules.{refused_cycle, accepted_cycle, accepted_directory, keeps_known}
use borrow.Author.Rules.{rules}
use Rattle.gates.proofs.cycle.Goals as goal

pub read-requires : goal.read-requires
read-requires c = let was = c.in_ok-verdict.was in search (accepted_directory, rules)

pub cycle-requires : goal.cycle-requires
cycle-requires c = let was = c.in_ok-verdict.was in rw c.read.ensures (search (keeps_known, rules))

pub returns-in_err-verdict : goal.returns-in_err-verdict
returns-in_err-verdict c = search (refused_cycle, rules)

pub returns : goal.returns
returns c = let same = rw c.read.ensures at c.cycle.ensures in search (accepted_cycle, rules)
