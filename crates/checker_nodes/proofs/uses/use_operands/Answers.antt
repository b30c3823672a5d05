use Rattle.design.proofs.PartRules.{expression_part_laws}
use Rattle.checker_nodes.proofs.UseRules.{use_laws}
use borrow.Author.Rules.{rules}
use Rattle.checker_nodes.proofs.uses.use_operands.Goals as goal

pub use_both-requires : goal.use_both-requires
use_both-requires c = search (expression_part_laws, rules)

pub returns-then-kind-lt2 : goal.returns-then-kind-lt2
returns-then-kind-lt2 c = search (use_laws, rules)

pub returns-in-2-to-11 : goal.returns-in-2-to-11
returns-in-2-to-11 c = search (use_laws, rules)

pub returns-else-kind-lt12 : goal.returns-else-kind-lt12
returns-else-kind-lt12 c = search (use_laws, rules)
