use Rattle.cases.proofs.LeavesRules.{after_reset, after_write, after_run_lem}
use borrow.Author.Rules.{rules}
use Rattle.cases.proofs.area_records.call.Goals as goal

pub returns-in-3 : goal.returns-in-3
returns-in-3 c = search (after_reset, rules)

pub returns-in-4 : goal.returns-in-4
returns-in-4 c = search (after_write, rules)

pub returns-in_default : goal.returns-in_default
returns-in_default c = search (after_run_lem, rules)
