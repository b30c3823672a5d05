use Rattle.checker_bodies.proofs.ShapeRules.{sibling_rule}
use borrow.Author.Rules.{rules}
use Rattle.checker_bodies.proofs.shape.sibling_or_self.Goals as goal

pub returns : goal.returns
returns c = search (sibling_rule, rules)
