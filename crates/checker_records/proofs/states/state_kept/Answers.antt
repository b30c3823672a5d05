use Rattle.checker_records.proofs.RecordRules.{state_rule}
use Rattle.design.proofs.Laws.{state_inside}
use borrow.Author.Rules.{rules}
use Rattle.checker_records.proofs.states.state_kept.Goals as goal

pub returns : goal.returns
returns c = search (state_rule, state_inside, rules)
