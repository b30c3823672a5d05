use Rattle.std.proofs.Common.{arith, refl, add-one}
use Rattle.replay_steps.specs.Judging.{judged_to}
use Rattle.replay_steps.proofs.JudgingRules.{superseded_within}
use Rattle.replay.proofs.records.judge_records.Goals as goal

pub loop-i-init : goal.loop-i-init
unfolding judged_to
loop-i-init c = (refl, omega arith)

pub judge_record-judged-requires : goal.judge_record-judged-requires
judge_record-judged-requires c =
    let within = superseded_within c.args.trace.now c.args.begun c.requires c.loop-i.i in
    rw c.loop-i.invariant.0 (omega arith)

pub loop-i-preserved : goal.loop-i-preserved
unfolding judged_to
loop-i-preserved c =
    (rw (add-one, c.judge_record-judged.ensures, c.loop-i.invariant.0) refl, omega arith)
