use Rattle.filing_steps.proofs.FieldRules.{is_assignment, sequence_a, sequence_b, sequence_new, is_branch, other_same}
use borrow.Author.Rules.{rules}
use Rattle.filing_steps.proofs.fields.command_field.Goals as goal

pub assignment_field-requires : goal.assignment_field-requires
assignment_field-requires c = search (is_assignment, rules)

pub pair_field-requires : goal.pair_field-requires
pair_field-requires c = search (sequence_a, sequence_b, rules)

pub returns-in-2 : goal.returns-in-2
returns-in-2 c = search (sequence_new, rules)

pub branch_field-requires : goal.branch_field-requires
branch_field-requires c = search (is_branch, rules)

pub returns-in_default : goal.returns-in_default
returns-in_default c = search (other_same, rules)
