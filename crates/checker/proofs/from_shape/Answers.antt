use Rattle.design.proofs.ResetRules.{states_few, fresh_defaults}
use Rattle.checker.specs.Stages.{from_shape}
use Rattle.checker.proofs.StageRules.{stage_refuses, stage_passes, none_found, shape_known, falls_told}
use borrow.Author.Rules.{rules}
use Rattle.checker.proofs.from_shape.Goals as goal

pub default_targets-requires : goal.default_targets-requires
default_targets-requires c = (search rules, search (states_few, rules))

pub shapes-requires : goal.shapes-requires
shapes-requires c = (search (shape_known, rules), search (fresh_defaults, rules), search (states_few, rules))

pub from_names-requires : goal.from_names-requires
from_names-requires c = let none = none_found _ _ c.refused_at.ensures c.in_ok-refused_at.was in (search rules, record { targets = search fresh_defaults; held = search falls_told })

pub returns-in_err-refused_at : goal.returns-in_err-refused_at
unfolding from_shape
returns-in_err-refused_at c = let was = c.in_err-refused_at.was in search (stage_refuses, rules)

pub returns : goal.returns
unfolding from_shape
returns c = let was = c.in_ok-refused_at.was in search (stage_passes, rules)
