use Rattle.design.proofs.PartRules.{command_part_laws}
use Rattle.checker_nodes.proofs.UseRules.{use_laws}
use borrow.Author.Rules.{rules}
use Rattle.checker_nodes.proofs.uses.use_parts.Goals as goal

pub use_both-requires : goal.use_both-requires
use_both-requires c = search (command_part_laws, rules)

pub use_both-requires-in-5 : goal.use_both-requires-in-5
use_both-requires-in-5 c = search (command_part_laws, rules)

pub returns-in-2 : goal.returns-in-2
returns-in-2 c = search (use_laws, rules)

pub returns-in-5 : goal.returns-in-5
returns-in-5 c = search (use_laws, rules)

pub returns-in_default : goal.returns-in_default
returns-in_default c = search (use_laws, rules)
