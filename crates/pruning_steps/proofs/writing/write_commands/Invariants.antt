use Rattle.pruning_steps.proofs.WritingRules.{CommandsWritten}
use Rattle.pruning_steps.proofs.writing.write_commands.Given as goal

abbrev pub invariant-loop-n : goal.invariant-loop-n
invariant-loop-n l = CommandsWritten l.image.bytes.now l.image.design l.commands l.at l.initial.out l.n l.place l.out
