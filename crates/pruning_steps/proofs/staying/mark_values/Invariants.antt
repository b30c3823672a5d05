use Prim.Native.Nat.{◌≤◌}
use Rattle.model.specs.Image.{design_of}
use Rattle.model.specs.Nodes.{values_of}
use Rattle.pruning_steps.specs.Staying.{given_by}
use Rattle.pruning_steps.proofs.StayingRules.{Spread}
use Rattle.pruning_steps.proofs.staying.mark_values.Given as goal

abbrev pub invariant-loop-n : goal.invariant-loop-n
invariant-loop-n l = Spread l.initial.marks (given_by l.commands (values_of (design_of l.image.bytes.now))) l.marks l.n × (l.n ≤ l.image.design.commands)
