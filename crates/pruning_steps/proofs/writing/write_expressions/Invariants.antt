use Rattle.pruning_steps.proofs.WritingRules.{ExpressionsWritten}
use Rattle.pruning_steps.proofs.writing.write_expressions.Given as goal

abbrev pub invariant-loop-n : goal.invariant-loop-n
invariant-loop-n l = ExpressionsWritten l.image.bytes.now l.image.design l.expressions l.at l.initial.out l.n l.place l.out
