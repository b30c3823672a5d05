use Rattle.model.specs.Image.{design_of}
use Rattle.machine.proofs.TargetRules.{ClearedSo}
use Rattle.machine.proofs.targets.clear.Given as goal

abbrev pub invariant-loop-s : goal.invariant-loop-s
invariant-loop-s l = ClearedSo (design_of l.image.bytes.now) l.image.design.states l.defaults l.t l.initial.targets l.s l.marks l.targets
