use Rattle.std.proofs.Common.{length, ◌≡◌, ◌≤◌}
use Rattle.replay_steps.specs.Judging.{judged_to}
use Rattle.replay.proofs.records.judge_records.Given as goal

abbrev pub invariant-loop-i : goal.invariant-loop-i
invariant-loop-i l = (l.judged ≡ judged_to l.trace l.fn.begun l.i) × (l.i ≤ length l.trace)
