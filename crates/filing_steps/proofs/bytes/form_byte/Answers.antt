use Rattle.filing_steps.proofs.ByteRules.{states_reach, commands_reach, expressions_reach, form_states, form_commands, form_expressions}
use borrow.Author.Rules.{rules}
use Rattle.filing_steps.proofs.bytes.form_byte.Goals as goal

pub state_byte-requires : goal.state_byte-requires
state_byte-requires c = search (states_reach, rules)

pub returns-then-i-image-2 : goal.returns-then-i-image-2
returns-then-i-image-2 c = search (form_states, rules)

pub command_byte-requires : goal.command_byte-requires
command_byte-requires c = search (commands_reach, rules)

pub returns-then-i-image-3 : goal.returns-then-i-image-3
returns-then-i-image-3 c = search (form_commands, rules)

pub expression_byte-requires : goal.expression_byte-requires
expression_byte-requires c = search (expressions_reach, rules)

pub returns : goal.returns
returns c = search (form_expressions, rules)
