use Rattle.filing_steps.proofs.NumberingRules.{NumberedFrom}
use Rattle.filing_steps.proofs.numbering.number.Given as goal

abbrev pub invariant-loop-k : goal.invariant-loop-k
invariant-loop-k l = NumberedFrom l.order l.count l.initial.numbers l.k l.numbers
