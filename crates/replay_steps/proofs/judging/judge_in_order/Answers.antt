use Rattle.model.specs.Verdict.{◌before◌}
use Rattle.replay_steps.specs.Judging.{judged_port}
use Rattle.replay_steps.proofs.AnswerRules.{port_within}
use borrow.Author.Rules.{rules}
use Rattle.replay_steps.proofs.judging.judge_in_order.Goals as goal

pub returns-then-is_err : goal.returns-then-is_err
unfolding judged_port ◌before◌
returns-then-is_err c = search rules

pub supersede-requires : goal.supersede-requires
supersede-requires c = (search rules, search (port_within, rules), search rules)

pub returns : goal.returns
unfolding judged_port ◌before◌
returns c = search rules

pub returns-then-is_err-2 : goal.returns-then-is_err-2
unfolding judged_port ◌before◌
returns-then-is_err-2 c = search rules
