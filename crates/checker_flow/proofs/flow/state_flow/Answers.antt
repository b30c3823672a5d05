use Rattle.checker_flow.proofs.FlowKinds.{state_mask_inside, state_flowing, state_flow_rule}
use borrow.Author.Rules.{rules}
use Rattle.checker_flow.proofs.flow.state_flow.Goals as goal

pub bounds-masks-label : goal.bounds-masks-label
bounds-masks-label c = search (state_mask_inside, rules)

pub flow-requires : goal.flow-requires
flow-requires c = search (state_flowing, rules)

pub returns : goal.returns
returns c = search (state_flow_rule, rules)
