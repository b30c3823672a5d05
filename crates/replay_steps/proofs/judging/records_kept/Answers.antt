use Rattle.replay_steps.specs.Judging.{records_kept}
use borrow.Author.Rules.{rules}
use Rattle.replay_steps.proofs.judging.records_kept.Goals as goal

pub returns-then-is_ok : goal.returns-then-is_ok
unfolding records_kept
returns-then-is_ok c = search rules

pub returns-else-is_ok : goal.returns-else-is_ok
unfolding records_kept
returns-else-is_ok c = search rules
