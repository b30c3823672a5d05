use Rattle.checker.specs.Stages.{from_registers}
use Rattle.checker.proofs.StageRules.{stage_refuses, stage_passes, none_found, known_registers}
use borrow.Author.Rules.{rules}
use Rattle.checker.proofs.from_registers.Goals as goal

pub from_states-requires : goal.from_states-requires
from_states-requires c = let none = none_found _ _ c.refused_at.ensures c.in_ok-refused_at.was in search (known_registers, rules)

pub returns-in_err-refused_at : goal.returns-in_err-refused_at
unfolding from_registers
returns-in_err-refused_at c = let was = c.in_err-refused_at.was in search (stage_refuses, rules)

pub returns : goal.returns
unfolding from_registers
returns c = let was = c.in_ok-refused_at.was in search (stage_passes, rules)
