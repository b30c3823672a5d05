use Rattle.checker_nodes.proofs.UseRules.{use_laws}
use borrow.Author.Rules.{rules}
use Rattle.checker_nodes.proofs.uses.use_command_expression.Goals as goal

pub use_node-requires : goal.use_node-requires
use_node-requires c = search (use_laws, rules)

pub returns-in-1 : goal.returns-in-1
returns-in-1 c = search (use_laws, rules)

pub returns-in_default : goal.returns-in_default
returns-in_default c = search (use_laws, rules)
