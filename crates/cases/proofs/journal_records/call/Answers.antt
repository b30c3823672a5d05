use Rattle.cases.proofs.LeavesRules.{after_journalled, after_back_lem}
use borrow.Author.Rules.{rules}
use Rattle.cases.proofs.journal_records.call.Goals as goal

pub returns-in-12 : goal.returns-in-12
returns-in-12 c = search (after_journalled, rules)

pub returns-in_default : goal.returns-in_default
returns-in_default c = search (after_back_lem, rules)
