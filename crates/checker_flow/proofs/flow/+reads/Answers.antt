use borrow.Author.Rules.{rules}
use Rattle.design.proofs.FieldRules.{operand_a_falls, operand_b_falls}
use Rattle.checker_flow.proofs.FlowRules.{reads_laws, operand_a_gathering, operand_b_gathering}
use Rattle.checker_flow.proofs.flow.+reads.Goals as goal

pub register_mask-requires : goal.register_mask-requires
register_mask-requires t c = search (reads_laws, rules)

pub reads-p-requires : goal.reads-p-requires
reads-p-requires t c = (search operand_a_falls, search operand_a_gathering)

pub reads-q-requires : goal.reads-q-requires
reads-q-requires t c = (search operand_b_falls, search operand_b_gathering)

pub returns-in-1 : goal.returns-in-1
returns-in-1 t c = search (reads_laws, rules)

pub returns-in-2-to-11 : goal.returns-in-2-to-11
returns-in-2-to-11 t c = search (reads_laws, rules)

pub returns-in_default : goal.returns-in_default
returns-in_default t c = search (reads_laws, rules)

pub returns-in_default-2 : goal.returns-in_default-2
returns-in_default-2 t c = search (reads_laws, rules)
