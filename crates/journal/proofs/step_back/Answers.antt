use Rattle.checker.proofs.Accepted.{accepted_keeps}
use Rattle.journal.proofs.ImageRules.{refused_step, accepted_step}
use borrow.Author.Rules.{rules}
use Rattle.journal.proofs.step_back.Goals as goal

pub step_back-requires : goal.step_back-requires
step_back-requires c = let was = c.in_ok-verdict.was in search (accepted_keeps, rules)

pub returns-in_err-verdict : goal.returns-in_err-verdict
returns-in_err-verdict c = let was = c.in_err-verdict.was in search (refused_step, rules)

pub returns : goal.returns
returns c = let was = c.in_ok-verdict.was in search (accepted_step, rules)
