use Rattle.filing_steps.proofs.FieldRules.{operation_a, operation_b, operation_new, no_kind, plain_same}
use borrow.Author.Rules.{rules}
use Rattle.filing_steps.proofs.fields.expression_field.Goals as goal

pub pair_field-requires : goal.pair_field-requires
pair_field-requires c = search (operation_a, operation_b, rules)

pub returns-in-2-to-11 : goal.returns-in-2-to-11
returns-in-2-to-11 c = search (operation_new, rules)

pub returns-in-0 : goal.returns-in-0
returns-in-0 c = search (plain_same, rules)

pub returns-in_default : goal.returns-in_default
returns-in_default c = search no_kind
