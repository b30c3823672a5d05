use Rattle.filing_steps.proofs.FieldRules.{condition_inside, condition_new, branch_inside, branch_new}
use borrow.Author.Rules.{rules}
use Rattle.filing_steps.proofs.fields.branch_field.Goals as goal

pub new_number-requires : goal.new_number-requires
new_number-requires c = search (condition_inside, rules)

pub returns-then-f-eq1 : goal.returns-then-f-eq1
returns-then-f-eq1 c = search (condition_new, rules)

pub new_number-requires-2 : goal.new_number-requires-2
new_number-requires-2 c = search (branch_inside, rules)

pub returns : goal.returns
returns c = search (branch_new, rules)
