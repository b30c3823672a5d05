use Rattle.filing_steps.proofs.ByteRules.{expression_found, expression_here, expression_ends, expression_head, expression_field_byte}
use borrow.Author.Rules.{rules}
use Rattle.filing_steps.proofs.bytes.expression_byte.Goals as goal

pub new_number-e-requires : goal.new_number-e-requires
new_number-e-requires c = search (expression_found, rules)

pub node_byte-requires : goal.node_byte-requires
node_byte-requires c = search (expression_ends, rules)

pub returns-then-o-lt2 : goal.returns-then-o-lt2
returns-then-o-lt2 c = search (expression_head, rules)

pub expression_field-field-requires : goal.expression_field-field-requires
expression_field-field-requires c = search (expression_here, rules)

pub returns : goal.returns
returns c = search (expression_field_byte, rules)
