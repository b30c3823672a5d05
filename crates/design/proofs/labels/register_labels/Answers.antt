use Rattle.design.proofs.ResetRules.{filled_none, filled_to_lem}
use Rattle.design.proofs.LabelRules.{labels_more}
use borrow.Author.Rules.{rules}
use Rattle.design.proofs.labels.register_labels.Goals as goal

pub loop-r-init : goal.loop-r-init
loop-r-init c = search (filled_none, rules)

pub loop-r-preserved : goal.loop-r-preserved
loop-r-preserved c = search (labels_more, rules)

pub returns : goal.returns
returns c = search (filled_to_lem, rules)
