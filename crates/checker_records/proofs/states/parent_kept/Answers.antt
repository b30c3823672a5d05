use Rattle.checker_records.proofs.RecordRules.{root_rule, child_rule}
use Rattle.design.proofs.Laws.{state_inside}
use borrow.Author.Rules.{rules}
use Rattle.checker_records.proofs.states.parent_kept.Goals as goal

pub returns-then-s-eq0 : goal.returns-then-s-eq0
returns-then-s-eq0 c = search (root_rule, child_rule, state_inside, rules)

pub returns : goal.returns
returns c = search (root_rule, child_rule, state_inside, rules)
