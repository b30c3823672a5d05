use Rattle.design.proofs.Laws.{state_inside}
use Rattle.design.proofs.PartRules.{body_inside}
use Rattle.pruning_steps.proofs.WritingRules.{parent_inside, parent_fits, state_new}
use borrow.Author.Rules.{rules}
use Rattle.pruning_steps.proofs.writing.write_state.Goals as goal

pub new_number-parent-requires : goal.new_number-parent-requires
new_number-parent-requires c = search (parent_inside, rules)

pub new_number-command-requires : goal.new_number-command-requires
new_number-command-requires c = search (body_inside, rules)

pub write_fields-requires : goal.write_fields-requires
write_fields-requires c = search (state_inside, parent_fits, rules)

pub returns : goal.returns
returns c = search (state_new, rules)
