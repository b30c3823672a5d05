use Rattle.design.proofs.PartRules.{expression_part_laws}
use Rattle.checker_nodes.proofs.DepthRules.{depth_laws}
use borrow.Author.Rules.{rules}
use Rattle.checker_nodes.proofs.depths.expression_depth.Goals as goal

pub bounds-depths-a : goal.bounds-depths-a
bounds-depths-a c = search (expression_part_laws, rules)

pub bounds-depths-b : goal.bounds-depths-b
bounds-depths-b c = search (expression_part_laws, rules)

pub returns-in-2-to-11 : goal.returns-in-2-to-11
returns-in-2-to-11 c = search (depth_laws, rules)

pub returns-in_default : goal.returns-in_default
returns-in_default c = search (depth_laws, rules)

pub returns-in_default-2 : goal.returns-in_default-2
returns-in_default-2 c = search (depth_laws, rules)
