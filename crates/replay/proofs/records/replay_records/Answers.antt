use Rattle.std.proofs.Common.{arith, ◌≡◌, ◌<◌, length, ap, ◌∙◌, add-one}
use Rattle.replay_model.specs.declared.TraceRecord.{TraceRecord}
use Rattle.replay_steps.specs.Judging.{records_kept}
use Rattle.replay_steps.proofs.ReplayingRules.{replaying_none, replaying_inside, replaying_ready, replaying_next, replaying_ends, replaying_all}
use Rattle.replay.proofs.records.replay_records.Goals as goal

pub loop-i-init : goal.loop-i-init
loop-i-init c = replaying_none c.requires

pub record_at-record-requires : goal.record_at-record-requires
record_at-record-requires c =
    let more : c.loop-i.i < records_kept c.args.prepared c.args.judged (length c.args.trace.now) = omega arith in
    replaying_inside c.loop-i.invariant more

pub replay_step-done-requires : goal.replay_step-done-requires
replay_step-done-requires c =
    let more : c.loop-i.i < records_kept c.args.prepared c.args.judged (length c.args.trace.now) = omega arith in
    rw c.record_at-record.ensures (replaying_ready c.loop-i.invariant more)

pub loop-i-preserved : goal.loop-i-preserved
loop-i-preserved c =
    let more : c.loop-i.i < records_kept c.args.prepared c.args.judged (length c.args.trace.now) = omega arith in
    let record_is = c.record_at-record.ensures in
    let step = c.replay_step-done.ensures in
    rw add-one (replaying_next c.loop-i.invariant more (step.0 ∙ ap (λ (x : TraceRecord). x.cycle) record_is) (rw record_is at step.1) step.2)

pub finish-requires : goal.finish-requires
finish-requires c =
    let last : c.loop-i.i ≡ records_kept c.args.prepared c.args.judged (length c.args.trace.now) = omega arith in
    replaying_ends c.loop-i.invariant last

pub returns : goal.returns
returns c =
    let last : c.loop-i.i ≡ records_kept c.args.prepared c.args.judged (length c.args.trace.now) = omega arith in
    replaying_all c.loop-i.invariant last c.finish.ensures
