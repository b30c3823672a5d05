use Rattle.design.proofs.PartRules.{body_inside}
use Rattle.checker_nodes.proofs.NodeRules.{counts}
use Rattle.checker_nodes.proofs.CountRules.{count_laws, counted_inside}
use Rattle.checker_nodes.proofs.UseRules.{use_laws}
use borrow.Author.Rules.{rules}
use Rattle.checker_nodes.proofs.uses.use_bodies.Goals as goal

pub loop-s-init : goal.loop-s-init
loop-s-init c = search (count_laws, use_laws, counts, rules)

pub use_node-requires : goal.use_node-requires
use_node-requires c = search (body_inside, counted_inside)

pub loop-s-preserved : goal.loop-s-preserved
loop-s-preserved c = search (count_laws, use_laws, counts, rules)

pub returns : goal.returns
returns c = search (count_laws, use_laws, counts, rules)
