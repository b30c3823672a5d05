use Rattle.replay_steps.specs.Judging.{judged_next}
use borrow.Author.Rules.{rules}
use Rattle.replay_steps.proofs.judging.judge_record.Goals as goal

pub returns-then-is_some : goal.returns-then-is_some
unfolding judged_next
returns-then-is_some c = search rules

pub returns-then-not-in_order : goal.returns-then-not-in_order
unfolding judged_next
returns-then-not-in_order c = search rules

pub returns : goal.returns
unfolding judged_next
returns c = search rules
