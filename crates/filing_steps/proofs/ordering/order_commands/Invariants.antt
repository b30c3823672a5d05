use Rattle.filing_steps.proofs.LoopRules.{BodiesPut}
use Rattle.filing_steps.proofs.ordering.order_commands.Given as goal

abbrev pub invariant-loop-s : goal.invariant-loop-s
invariant-loop-s l = BodiesPut l.image.bytes.now l.image.design l.initial.order l.s l.k l.order
