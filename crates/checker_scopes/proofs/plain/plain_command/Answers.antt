use Rattle.checker_scopes.proofs.PlainRules.{plain_command_laws}
use borrow.Author.Rules.{rules}
use Rattle.checker_scopes.proofs.plain.plain_command.Goals as goal

pub returns-in-1 : goal.returns-in-1
returns-in-1 c = search (plain_command_laws, rules)

pub returns-in-4 : goal.returns-in-4
returns-in-4 c = search (plain_command_laws, rules)

pub returns-in_default : goal.returns-in_default
returns-in_default c = search (plain_command_laws, rules)
