use Rattle.filing_steps.proofs.ByteRules.{command_found, command_here, command_ends, command_head, command_field_byte}
use borrow.Author.Rules.{rules}
use Rattle.filing_steps.proofs.bytes.command_byte.Goals as goal

pub new_number-n-requires : goal.new_number-n-requires
new_number-n-requires c = search (command_found, rules)

pub node_byte-requires : goal.node_byte-requires
node_byte-requires c = search (command_ends, rules)

pub returns-then-o-lt2 : goal.returns-then-o-lt2
returns-then-o-lt2 c = search (command_head, rules)

pub command_field-field-requires : goal.command_field-field-requires
command_field-field-requires c = (search rules, search command_here, search rules, search rules, search rules, search rules)

pub returns : goal.returns
returns c = search (command_field_byte, rules)
