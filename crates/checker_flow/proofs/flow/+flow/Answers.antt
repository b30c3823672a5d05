use borrow.Author.Rules.{rules}
use Rattle.design.proofs.FieldRules.{sequence_a_falls, sequence_b_falls, branch_b_falls, branch_c_falls}
use Rattle.checker_flow.proofs.FlowKinds.{flow_laws, sequence_a_flowing, sequence_b_flowing, branch_b_flowing, branch_c_flowing}
use Rattle.checker_flow.proofs.flow.+flow.Goals as goal

pub assign_flow-requires : goal.assign_flow-requires
assign_flow-requires t c = search (flow_laws, rules)

pub flow-p-requires : goal.flow-p-requires
flow-p-requires t c = (search sequence_a_falls, search sequence_a_flowing)

pub returns-then-p-lt-NOWHERE : goal.returns-then-p-lt-NOWHERE
returns-then-p-lt-NOWHERE t c = search (flow_laws, rules)

pub flow-requires : goal.flow-requires
flow-requires t c = (search sequence_b_falls, search sequence_b_flowing)

pub bit-kept-requires : goal.bit-kept-requires
bit-kept-requires t c = search (flow_laws, rules)

pub named_label-named-requires : goal.named_label-named-requires
named_label-named-requires t c = search (flow_laws, rules)

pub bit-kept-requires-in-4 : goal.bit-kept-requires-in-4
bit-kept-requires-in-4 t c = search (flow_laws, rules)

pub reads-requires : goal.reads-requires
reads-requires t c = search (flow_laws, rules)

pub flow-p-requires-in-5 : goal.flow-p-requires-in-5
flow-p-requires-in-5 t c = (search branch_b_falls, search branch_b_flowing)

pub returns-then-p-lt-NOWHERE-2 : goal.returns-then-p-lt-NOWHERE-2
returns-then-p-lt-NOWHERE-2 t c = search (flow_laws, rules)

pub flow-requires-in-5 : goal.flow-requires-in-5
flow-requires-in-5 t c = (search branch_c_falls, search branch_c_flowing)

pub returns-in-1 : goal.returns-in-1
returns-in-1 t c = search (flow_laws, rules)

pub returns-else-p-lt-NOWHERE : goal.returns-else-p-lt-NOWHERE
returns-else-p-lt-NOWHERE t c = search (flow_laws, rules)

pub returns-in-3 : goal.returns-in-3
returns-in-3 t c = search (flow_laws, rules)

pub returns-in-4 : goal.returns-in-4
returns-in-4 t c = search (flow_laws, rules)

pub returns-else-p-lt-NOWHERE-2 : goal.returns-else-p-lt-NOWHERE-2
returns-else-p-lt-NOWHERE-2 t c = search (flow_laws, rules)

pub returns-in_default : goal.returns-in_default
returns-in_default t c = search (flow_laws, rules)
