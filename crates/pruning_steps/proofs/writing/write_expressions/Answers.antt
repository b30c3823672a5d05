use mathlib.Core.Path.{◌∙◌}
use Rattle.pruning_steps.proofs.WritingRules.{expressions_none, written_room, expression_here, expressions_one, expressions_past, expressions_whole}
use borrow.Author.Rules.{rules}
use Rattle.pruning_steps.proofs.writing.write_expressions.Goals as goal
use Rattle.pruning_steps.proofs.writing.write_expressions.Goals.{then-expressions-n-eq1, else-expressions-n-eq1}

pub loop-n-init : goal.loop-n-init
loop-n-init c = search (expressions_none, rules)

pub write_expression-requires : goal.write_expression-requires
write_expression-requires c = search (written_room, expression_here, rules)

pub loop-n-preserved : goal.loop-n-preserved
loop-n-preserved c =
    elim c.if-expressions-n-eq1.branch [
      | then-expressions-n-eq1 w ↦ expressions_one c.args.image.now.bytes.now c.args.image.now.design c.loop-n.invariant w.if-expressions-n-eq1.true w.place-is (w.out-is ∙ w.write_expression.ensures) c.loop-n-test.true
      | else-expressions-n-eq1 w ↦ expressions_past c.args.image.now.bytes.now c.args.image.now.design c.loop-n.invariant w.if-expressions-n-eq1.false w.place-is w.out-is c.loop-n-test.true
    ]

pub returns : goal.returns
returns c = search (expressions_whole, rules)
