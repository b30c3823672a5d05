use Rattle.machine.proofs.CycleRules.{RunSo}
use Rattle.machine.proofs.cycle.cycles.Given as goal

abbrev pub invariant-loop-i : goal.invariant-loop-i
invariant-loop-i l = RunSo l.image.bytes.now l.image.design l.defaults l.scopes l.count l.initial.registers l.initial.area l.i l.registers l.area l.walk
