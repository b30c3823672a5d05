use Rattle.filing_steps.proofs.NumberingRules.{numbered_begins, last_below, numbered_more}
use borrow.Author.Rules.{rules}
use Rattle.filing_steps.proofs.numbering.number.Goals as goal

pub loop-k-init : goal.loop-k-init
loop-k-init c = search (numbered_begins, rules)

pub bounds-numbers-n : goal.bounds-numbers-n
bounds-numbers-n c = search (last_below, rules)

pub loop-k-preserved : goal.loop-k-preserved
loop-k-preserved c = search (numbered_more, rules)
