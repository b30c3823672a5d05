use Rattle.model.specs.Image.{design_of}
use Rattle.model.specs.Nodes.{command_of}
use Rattle.checker_nodes.proofs.CountRules.{Counted}
use Rattle.checker_nodes.proofs.uses.use_bodies.Given as goal

abbrev pub invariant-loop-s : goal.invariant-loop-s
invariant-loop-s l = Counted l.initial.table (command_of (design_of l.image.bytes.now)) l.table l.s
