use Rattle.design.specs.Resets.{lends}
use Rattle.replay_steps.specs.Replaying.{Replaying}
use Rattle.replay.proofs.records.replay_records.Given as goal

abbrev pub invariant-loop-i : goal.invariant-loop-i
invariant-loop-i l = Replaying l.image (lends l.initial.registers l.initial.targets) l.trace l.prepared l.judged l.i l.done l.registers l.targets
