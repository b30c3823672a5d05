use Rattle.design.proofs.PartRules.{command_part_laws}
use Rattle.checker_nodes.proofs.DepthRules.{depth_laws}
use borrow.Author.Rules.{rules}
use Rattle.checker_nodes.proofs.depths.command_depth.Goals as goal

pub bounds-depths-a : goal.bounds-depths-a
bounds-depths-a c = search (command_part_laws, rules)

pub bounds-depths-b : goal.bounds-depths-b
bounds-depths-b c = search (command_part_laws, rules)

pub bounds-depths-b-in-5 : goal.bounds-depths-b-in-5
bounds-depths-b-in-5 c = search (command_part_laws, rules)

pub bounds-depths-c : goal.bounds-depths-c
bounds-depths-c c = search (command_part_laws, rules)

pub returns-in-2 : goal.returns-in-2
returns-in-2 c = search (depth_laws, rules)

pub returns-in-5 : goal.returns-in-5
returns-in-5 c = search (depth_laws, rules)

pub returns-in_default : goal.returns-in_default
returns-in_default c = search (depth_laws, rules)
