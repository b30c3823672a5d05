use Rattle.cases.proofs.LeavesRules.{painted_by}
use borrow.Author.Rules.{rules}
use Rattle.cases.proofs.image_records.paint.Goals as goal

pub returns : goal.returns
returns c = search (painted_by, rules)
