use Rattle.checker.proofs.Accepted.{accepted_keeps}
use Rattle.calls.proofs.CallRules.{refused_registers_length, accepted_registers_length}
use borrow.Author.Rules.{rules}
use Rattle.calls.proofs.registers_length.Goals as goal

pub registers_length-requires : goal.registers_length-requires
registers_length-requires c = let was = c.in_ok-verdict.was in search (accepted_keeps, rules)

pub returns-in_err-verdict : goal.returns-in_err-verdict
returns-in_err-verdict c = let was = c.in_err-verdict.was in search (refused_registers_length, rules)

pub returns : goal.returns
returns c = let was = c.in_ok-verdict.was in search (accepted_registers_length, rules)
