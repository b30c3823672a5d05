use Rattle.model.specs.Image.{design_of}
use Rattle.model.specs.Nodes.{operands_of}
use Rattle.model.specs.Kinds.{expression_kept}
use Rattle.model.specs.Trees.{expr_of, expr_depth}
use Rattle.model.proofs.Laws.Passes.{Passed}
use Rattle.design.specs.Resets.{Filled}
use Rattle.checker_nodes.specs.Tables.{depth_entry}
use Rattle.checker_nodes.proofs.CountRules.{Counted}
use Rattle.checker_nodes.proofs.passes.expressions.Given as goal

abbrev pub invariant-loop-n : goal.invariant-loop-n
invariant-loop-n l = Passed (expression_kept (design_of l.image.bytes.now)) l.n
    × Counted l.initial.uses (operands_of (design_of l.image.bytes.now)) l.uses l.n
    × Filled (λ k. depth_entry (expr_depth (expr_of (design_of l.image.bytes.now) k))) l.initial.depths l.n l.depths
