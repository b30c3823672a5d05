use Rattle.design.proofs.PartRules.{sequence_a_inside, sequence_b_inside, branch_b_inside, branch_c_inside}
use Rattle.pruning_steps.proofs.WritingRules.{assign_inside, condition_inside, goto_inside, goto_fits, assign_new, sequence_new, goto_new, branch_new, other_new}
use borrow.Author.Rules.{rules}
use Rattle.pruning_steps.proofs.writing.write_command.Goals as goal

pub new_number-value-requires : goal.new_number-value-requires
new_number-value-requires c = search (assign_inside, rules)

pub new_number-first-requires : goal.new_number-first-requires
new_number-first-requires c = search (sequence_a_inside, rules)

pub new_number-second-requires : goal.new_number-second-requires
new_number-second-requires c = search (sequence_b_inside, rules)

pub new_number-target-requires : goal.new_number-target-requires
new_number-target-requires c = search (goto_inside, rules)

pub put_node-requires-in-4 : goal.put_node-requires-in-4
put_node-requires-in-4 c = search (goto_fits, rules)

pub new_number-value-requires-in-5 : goal.new_number-value-requires-in-5
new_number-value-requires-in-5 c = search (condition_inside, rules)

pub new_number-first-requires-in-5 : goal.new_number-first-requires-in-5
new_number-first-requires-in-5 c = search (branch_b_inside, rules)

pub new_number-second-requires-in-5 : goal.new_number-second-requires-in-5
new_number-second-requires-in-5 c = search (branch_c_inside, rules)

pub returns-in-1 : goal.returns-in-1
returns-in-1 c = search (assign_new, rules)

pub returns-in-2 : goal.returns-in-2
returns-in-2 c = search (sequence_new, rules)

pub returns-in-4 : goal.returns-in-4
returns-in-4 c = search (goto_new, rules)

pub returns-in-5 : goal.returns-in-5
returns-in-5 c = search (branch_new, rules)

pub returns-in_default : goal.returns-in_default
returns-in_default c = search (other_new, rules)
