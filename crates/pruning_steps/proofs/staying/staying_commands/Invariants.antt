use Prim.Native.Nat.{◌≤◌}
use Rattle.pruning_steps.proofs.StayingRules.{CommandsDown}
use Rattle.pruning_steps.proofs.staying.staying_commands.Given as goal

abbrev pub invariant-loop-n : goal.invariant-loop-n
invariant-loop-n l = CommandsDown l.image.bytes.now l.image.design l.initial.marks l.n l.marks × (l.n ≤ l.image.design.commands)
