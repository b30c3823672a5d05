use Rattle.design.proofs.Laws.{registers_most}
use Rattle.running.proofs.RunningRules.{sound_running}
use Rattle.calls.proofs.CallRules.{right_lengths}
use Rattle.replay_steps.proofs.PreparingRules.{unsound_refused, count_refused, all_prepared}
use borrow.Author.Rules.{rules}
use Rattle.replay_steps.proofs.preparing.prepare_on.Goals as goal

pub judge-requires : goal.judge-requires
judge-requires c = (search rules, search rules, search rules, search rules)

pub returns-in-Err : goal.returns-in-Err
returns-in-Err c = search (unsound_refused, count_refused, right_lengths, rules)

pub returns-then-not-count_kept : goal.returns-then-not-count_kept
returns-then-not-count_kept c = search (unsound_refused, count_refused, right_lengths, rules)

pub largest_values-requires : goal.largest_values-requires
largest_values-requires c = (search rules, search (registers_most, rules))

pub returns : goal.returns
returns c = search (all_prepared, sound_running, right_lengths, rules)
