use Rattle.checker.proofs.Accepted.{accepted_keeps}
use Rattle.calls.proofs.CallRules.{refused_targets_length, accepted_targets_length}
use borrow.Author.Rules.{rules}
use Rattle.calls.proofs.targets_length.Goals as goal

pub targets_length-requires : goal.targets_length-requires
targets_length-requires c = let was = c.in_ok-verdict.was in search (accepted_keeps, rules)

pub returns-in_err-verdict : goal.returns-in_err-verdict
returns-in_err-verdict c = let was = c.in_err-verdict.was in search (refused_targets_length, rules)

pub returns : goal.returns
returns c = let was = c.in_ok-verdict.was in search (accepted_targets_length, rules)
