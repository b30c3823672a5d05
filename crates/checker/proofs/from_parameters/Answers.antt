use Rattle.checker.specs.Stages.{from_parameters}
use Rattle.checker.proofs.StageRules.{stage_refuses, stage_passes, none_found, known_parameters, scopes_told, scopes_fit}
use borrow.Author.Rules.{rules}
use Rattle.checker.proofs.from_parameters.Goals as goal

pub parameters-requires : goal.parameters-requires
parameters-requires c = search (scopes_fit, rules)

pub from_scopes-requires : goal.from_scopes-requires
from_scopes-requires c = let none = none_found _ _ c.refused_at.ensures c.in_ok-refused_at.was in (search rules, search known_parameters, search rules, search scopes_told)

pub returns-in_err-refused_at : goal.returns-in_err-refused_at
unfolding from_parameters
returns-in_err-refused_at c = let was = c.in_err-refused_at.was in search (stage_refuses, rules)

pub returns : goal.returns
unfolding from_parameters
returns c = let was = c.in_ok-refused_at.was in search (stage_passes, rules)
