use Rattle.pruning_steps.proofs.WritingRules.{StatesWritten}
use Rattle.pruning_steps.proofs.writing.write_states.Given as goal

abbrev pub invariant-loop-s : goal.invariant-loop-s
invariant-loop-s l = StatesWritten l.image.bytes.now l.image.design l.reached l.at l.initial.out l.s l.place l.out
