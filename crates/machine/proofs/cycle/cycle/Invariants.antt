use Rattle.machine.proofs.CycleRules.{Cycling}
use Rattle.machine.proofs.cycle.cycle.Given as goal

abbrev pub invariant-loop-n : goal.invariant-loop-n
invariant-loop-n l = Cycling l.image.bytes.now l.image.design l.defaults l.scopes l.initial.registers l.initial.area l.initial.walk l.n l.s l.registers l.area l.walk
