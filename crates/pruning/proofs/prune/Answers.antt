use Rattle.checker.proofs.Accepted.{accepted_keeps}
use Rattle.pruning.proofs.StageRules.{verdict_refuses, verdict_passes}
use borrow.Author.Rules.{rules}
use Rattle.pruning.proofs.prune.Goals as goal

pub prune_accepted-requires : goal.prune_accepted-requires
prune_accepted-requires c = let was = c.in_ok-verdict.was in search (accepted_keeps, rules)

pub returns-in_err-verdict : goal.returns-in_err-verdict
returns-in_err-verdict c = search (verdict_refuses, verdict_passes, rules)

pub returns : goal.returns
returns c = search (verdict_refuses, verdict_passes, rules)
