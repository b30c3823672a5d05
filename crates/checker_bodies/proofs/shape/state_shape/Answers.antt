use Rattle.checker_bodies.proofs.ShapeRules.{body_judging, state_shape_rule, own_small}
use Rattle.design.proofs.ResetRules.{entry_inside, state_fits}
use borrow.Author.Rules.{rules}
use Rattle.checker_bodies.proofs.shape.state_shape.Goals as goal

pub has_child-child-requires : goal.has_child-child-requires
has_child-child-requires c = search (entry_inside, state_fits, rules)

pub judge-body-requires : goal.judge-body-requires
judge-body-requires c = search (body_judging, rules)

pub judgement-requires : goal.judgement-requires
judgement-requires c = search (own_small, rules)

pub returns : goal.returns
returns c = search (state_shape_rule, rules)
