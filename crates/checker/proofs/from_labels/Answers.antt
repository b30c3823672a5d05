use Rattle.checker.specs.Stages.{from_labels}
use Rattle.checker.proofs.StageRules.{stage_refuses, stage_passes, none_found, known_lattice}
use borrow.Author.Rules.{rules}
use Rattle.checker.proofs.from_labels.Goals as goal

pub from_registers-requires : goal.from_registers-requires
from_registers-requires c = let none = none_found _ _ c.refused_at.ensures c.in_ok-refused_at.was in search (known_lattice, rules)

pub returns-in_err-refused_at : goal.returns-in_err-refused_at
unfolding from_labels
returns-in_err-refused_at c = let was = c.in_err-refused_at.was in search (stage_refuses, rules)

pub returns : goal.returns
unfolding from_labels
returns c = let was = c.in_ok-refused_at.was in search (stage_passes, rules)
