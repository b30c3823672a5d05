use Rattle.model.specs.Image.{design_of}
use Rattle.model.specs.Nodes.{parts_of, values_of}
use Rattle.model.specs.Kinds.{command_kept}
use Rattle.model.specs.Trees.{cmd_of, cmd_depth}
use Rattle.model.proofs.Laws.Passes.{Passed}
use Rattle.design.specs.Resets.{Filled}
use Rattle.checker_nodes.specs.Tables.{depth_entry}
use Rattle.checker_nodes.proofs.CountRules.{Counted}
use Rattle.checker_nodes.proofs.passes.commands.Given as goal

abbrev pub invariant-loop-n : goal.invariant-loop-n
invariant-loop-n l = Passed (command_kept (design_of l.image.bytes.now)) l.n
    × Counted l.initial.uses (parts_of (design_of l.image.bytes.now)) l.uses l.n
    × Counted l.initial.expression_uses (values_of (design_of l.image.bytes.now)) l.expression_uses l.n
    × Filled (λ k. depth_entry (cmd_depth (cmd_of (design_of l.image.bytes.now) k))) l.initial.depths l.n l.depths
