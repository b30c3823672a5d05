use Rattle.filing.proofs.WritingRules.{form_begins, form_more, form_done}
use borrow.Author.Rules.{rules}
use Rattle.filing.proofs.writing.write.Goals as goal

pub loop-i-init : goal.loop-i-init
loop-i-init c = search (form_begins, rules)

pub loop-i-preserved : goal.loop-i-preserved
loop-i-preserved c = search (form_more, rules)

pub returns : goal.returns
returns c = search (form_done, rules)
