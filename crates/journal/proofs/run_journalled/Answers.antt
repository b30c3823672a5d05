use Rattle.checker.proofs.Accepted.{accepted_keeps}
use Rattle.journal.proofs.ImageRules.{refused_run, accepted_run}
use borrow.Author.Rules.{rules}
use Rattle.journal.proofs.run_journalled.Goals as goal

pub run_journalled-requires : goal.run_journalled-requires
run_journalled-requires c = let was = c.in_ok-verdict.was in search (accepted_keeps, rules)

pub returns-in_err-verdict : goal.returns-in_err-verdict
returns-in_err-verdict c = let was = c.in_err-verdict.was in search (refused_run, rules)

pub returns : goal.returns
returns c = let was = c.in_ok-verdict.was in search (accepted_run, rules)
