use Rattle.design.proofs.FieldRules.{operand_a_falls, operand_b_falls}
use Rattle.checker_scopes.proofs.ScopeRules.{reads_laws, operand_a_reading, operand_b_reading}
use borrow.Author.Rules.{rules}
use Rattle.checker_scopes.proofs.scope.+reads.Goals as goal

pub reads-p-requires : goal.reads-p-requires
reads-p-requires t c = (search operand_a_falls, search operand_a_reading)

pub reads-q-requires : goal.reads-q-requires
reads-q-requires t c = (search operand_b_falls, search operand_b_reading)

pub returns-in-1 : goal.returns-in-1
returns-in-1 t c = search (reads_laws, rules)

pub returns-in-2-to-11 : goal.returns-in-2-to-11
returns-in-2-to-11 t c = search (reads_laws, rules)

pub returns-in_default : goal.returns-in_default
returns-in_default t c = search (reads_laws, rules)

pub returns-in_default-2 : goal.returns-in_default-2
returns-in_default-2 t c = search (reads_laws, rules)
