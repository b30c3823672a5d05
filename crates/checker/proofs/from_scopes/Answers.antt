use Rattle.checker.specs.Stages.{from_scopes}
use Rattle.checker.proofs.StageRules.{stage_refuses, stage_passes}
use borrow.Author.Rules.{rules}
use Rattle.checker.proofs.from_scopes.Goals as goal

pub returns-in_err-refused_at : goal.returns-in_err-refused_at
unfolding from_scopes
returns-in_err-refused_at c = let was = c.in_err-refused_at.was in search (stage_refuses, rules)

pub returns : goal.returns
unfolding from_scopes
returns c = let was = c.in_ok-refused_at.was in search (stage_passes, rules)
