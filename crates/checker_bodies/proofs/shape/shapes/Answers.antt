use borrow.Author.Rules.{rules}
use Rattle.checker_bodies.proofs.ShapeRules.{lowest_one_more, falls_one_more, shapes_laws}
use Rattle.checker_bodies.proofs.shape.shapes.Goals as goal

pub loop-s-init : goal.loop-s-init
loop-s-init c = search (shapes_laws, rules)

pub loop-s-preserved : goal.loop-s-preserved
loop-s-preserved c = (search (lowest_one_more, rules), search (falls_one_more, rules))

pub returns : goal.returns
returns c = search (shapes_laws, rules)
