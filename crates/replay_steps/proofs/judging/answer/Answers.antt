use Rattle.model.specs.Verdict.{◌before◌}
use Rattle.replay_steps.specs.Judging.{judged_answer, answer_of}
use borrow.Author.Rules.{rules}
use Rattle.replay_steps.proofs.judging.answer.Goals as goal

pub returns-in_err-prepared : goal.returns-in_err-prepared
unfolding answer_of judged_answer ◌before◌
returns-in_err-prepared c = search rules

pub returns-in_err-refused_at : goal.returns-in_err-refused_at
unfolding answer_of judged_answer ◌before◌
returns-in_err-refused_at c = search rules

pub returns-in_err-judged : goal.returns-in_err-judged
unfolding answer_of judged_answer ◌before◌
returns-in_err-judged c = search rules

pub returns : goal.returns
unfolding answer_of judged_answer ◌before◌
returns c = search rules
