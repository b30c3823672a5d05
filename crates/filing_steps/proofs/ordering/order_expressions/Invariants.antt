use Rattle.filing_steps.proofs.LoopRules.{ValuesPut}
use Rattle.filing_steps.proofs.ordering.order_expressions.Given as goal

abbrev pub invariant-loop-n : goal.invariant-loop-n
invariant-loop-n l = ValuesPut l.image.bytes.now l.image.design l.initial.order l.n-index l.k l.order
