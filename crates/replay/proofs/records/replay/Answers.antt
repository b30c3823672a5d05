use Rattle.std.proofs.Common.{refl}
use Rattle.replay_steps.specs.Judging.{judging_of}
use Rattle.replay_steps.proofs.ReplayingRules.{judged_all}
use Rattle.replay.proofs.records.replay.Goals as goal

pub judge_records-judged-requires : goal.judge_records-judged-requires
unfolding judging_of
judge_records-judged-requires c = rw c.begin-begun.ensures refl

pub replay_records-requires : goal.replay_records-requires
replay_records-requires c = judged_all c.prepare-prepared.ensures c.begin-begun.ensures c.judge_records-judged.ensures
