use Rattle.checker.specs.Stages.{from_states}
use Rattle.checker.proofs.StageRules.{stage_refuses, stage_passes, none_found, known_states}
use borrow.Author.Rules.{rules}
use Rattle.checker.proofs.from_states.Goals as goal

pub from_nodes-requires : goal.from_nodes-requires
from_nodes-requires c = let none = none_found _ _ c.refused_at.ensures c.in_ok-refused_at.was in search (known_states, rules)

pub returns-in_err-refused_at : goal.returns-in_err-refused_at
unfolding from_states
returns-in_err-refused_at c = let was = c.in_err-refused_at.was in search (stage_refuses, rules)

pub returns : goal.returns
unfolding from_states
returns c = let was = c.in_ok-refused_at.was in search (stage_passes, rules)
