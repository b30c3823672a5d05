use Prim.Native.Nat.{◌≤◌}
use Rattle.model.specs.Image.{design_of}
use Rattle.model.specs.Nodes.{command_of}
use Rattle.pruning_steps.specs.Staying.{given_by}
use Rattle.pruning_steps.proofs.StayingRules.{Spread}
use Rattle.pruning_steps.proofs.staying.mark_bodies.Given as goal

abbrev pub invariant-loop-s : goal.invariant-loop-s
invariant-loop-s l = Spread l.initial.marks (given_by l.reached (command_of (design_of l.image.bytes.now))) l.marks l.s × (l.s ≤ l.image.design.states)
