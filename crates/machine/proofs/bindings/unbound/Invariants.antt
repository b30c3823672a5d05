use Rattle.model.specs.Image.{design_of}
use Rattle.machine.proofs.BindingRules.{Judged}
use Rattle.machine.proofs.bindings.unbound.Given as goal

abbrev pub invariant-loop-s : goal.invariant-loop-s
invariant-loop-s l = Judged (design_of l.image.bytes.now) l.area l.s l.next
