use borrow.Author.Rules.{rules}
use Rattle.raising.proofs.CommandRules.{command_laws, sequence_a_raising, sequence_b_raising, branch_b_raising, branch_c_raising, sequence_a_lower, sequence_b_lower, branch_b_lower, branch_c_lower}
use Rattle.raising.proofs.passes.+raise_command.Goals as goal

pub raise_register-requires : goal.raise_register-requires
raise_register-requires t c = search (command_laws, rules)

pub raise_command-p-requires : goal.raise_command-p-requires
raise_command-p-requires t c = (search sequence_a_lower, search sequence_a_raising)

pub raise_command-q-requires : goal.raise_command-q-requires
raise_command-q-requires t c = (search sequence_b_lower, search sequence_b_raising)

pub reads-requires : goal.reads-requires
reads-requires t c = search (command_laws, rules)

pub raise_command-p-requires-in-5 : goal.raise_command-p-requires-in-5
raise_command-p-requires-in-5 t c = (search branch_b_lower, search branch_b_raising)

pub raise_command-q-requires-in-5 : goal.raise_command-q-requires-in-5
raise_command-q-requires-in-5 t c = (search branch_c_lower, search branch_c_raising)

pub returns-in-2 : goal.returns-in-2
returns-in-2 t c = search (command_laws, rules)

pub returns-in-5 : goal.returns-in-5
returns-in-5 t c = search (command_laws, rules)

pub returns-in_default : goal.returns-in_default
returns-in_default t c = search (command_laws, rules)
