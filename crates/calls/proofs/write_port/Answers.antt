use Rattle.checker.proofs.Accepted.{accepted_keeps}
use Rattle.calls.proofs.CallRules.{refused_write, accepted_write}
use borrow.Author.Rules.{rules}
use Rattle.calls.proofs.write_port.Goals as goal

pub write_port-requires : goal.write_port-requires
write_port-requires c = let was = c.in_ok-verdict.was in search (accepted_keeps, rules)

pub returns-in_err-verdict : goal.returns-in_err-verdict
returns-in_err-verdict c = let was = c.in_err-verdict.was in search (refused_write, rules)

pub returns : goal.returns
returns c = let was = c.in_ok-verdict.was in search (accepted_write, rules)
