use Rattle.checker.specs.Stages.{from_nodes}
use Rattle.checker.proofs.StageRules.{stage_refuses, stage_passes, none_found, known_nodes, known_told}
use borrow.Author.Rules.{rules}
use Rattle.checker.proofs.from_tables.Goals as goal

pub from_uses-requires : goal.from_uses-requires
from_uses-requires c = let none = none_found _ _ c.refused_at.ensures c.in_ok-refused_at.was in (search known_nodes, search known_told)

pub returns-in_err-refused_at : goal.returns-in_err-refused_at
unfolding from_nodes
returns-in_err-refused_at c = let was = c.in_err-refused_at.was in (search (stage_refuses, rules), search rules)

pub returns : goal.returns
unfolding from_nodes
returns c = let was = c.in_ok-refused_at.was in (search (stage_passes, rules), search rules)
