use Prim.Native.Nat.{◌≤◌}
use Rattle.pruning_steps.proofs.StayingRules.{ExpressionsDown}
use Rattle.pruning_steps.proofs.staying.staying_expressions.Given as goal

abbrev pub invariant-loop-n : goal.invariant-loop-n
invariant-loop-n l = ExpressionsDown l.image.bytes.now l.image.design l.initial.marks l.n l.marks × (l.n ≤ l.image.design.expressions)
