use Rattle.filing_steps.proofs.FieldRules.{value_inside, value_new, assigned_same}
use borrow.Author.Rules.{rules}
use Rattle.filing_steps.proofs.fields.assignment_field.Goals as goal

pub new_number-requires : goal.new_number-requires
new_number-requires c = search (value_inside, rules)

pub returns-then-f-eq1 : goal.returns-then-f-eq1
returns-then-f-eq1 c = search (value_new, rules)

pub returns : goal.returns
returns c = search (assigned_same, rules)
