use Rattle.running.proofs.RunningRules.{sound_running}
use Rattle.model.specs.Verdict.{◌before◌}
use Rattle.calls.specs.Stages.{run_on}
use Rattle.calls.proofs.CallRules.{right_lengths, run_passes}
use borrow.Author.Rules.{rules}
use Rattle.calls.proofs.runs.run_on.Goals as goal

pub judge-requires : goal.judge-requires
judge-requires c = (search rules, search rules, search rules, search rules)

pub run_sound-requires : goal.run_sound-requires
run_sound-requires c = let was = c.in_ok-judge.was in search (sound_running, rules)

pub returns-in_err-judge : goal.returns-in_err-judge
unfolding run_on ◌before◌
returns-in_err-judge c =
    let was = c.in_err-judge.was in
    let right = right_lengths c.args.registers.now c.args.targets.now c.args.image.now.describes c.requires.1 c.requires.2 in
    search rules

pub returns : goal.returns
returns c = let was = c.in_ok-judge.was in search (run_passes, right_lengths, rules)
