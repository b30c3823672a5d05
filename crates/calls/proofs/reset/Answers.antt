use Rattle.checker.proofs.Accepted.{accepted_keeps}
use Rattle.calls.proofs.CallRules.{refused_reset, accepted_reset}
use borrow.Author.Rules.{rules}
use Rattle.calls.proofs.reset.Goals as goal

pub reset-requires : goal.reset-requires
reset-requires c = let was = c.in_ok-verdict.was in search (accepted_keeps, rules)

pub returns-in_err-verdict : goal.returns-in_err-verdict
returns-in_err-verdict c = let was = c.in_err-verdict.was in search (refused_reset, rules)

pub returns : goal.returns
returns c = let was = c.in_ok-verdict.was in search (accepted_reset, rules)
