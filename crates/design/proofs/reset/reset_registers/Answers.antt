use Rattle.design.proofs.ResetRules.{reset_begins, reset_long, reset_inside, reset_more, reset_whole}
use borrow.Author.Rules.{rules}
use Rattle.design.proofs.reset.reset_registers.Goals as goal

pub loop-r-init : goal.loop-r-init
loop-r-init c = search (reset_begins, rules)

pub put_word-requires : goal.put_word-requires
put_word-requires c = search (reset_inside, rules)

pub loop-r-preserved : goal.loop-r-preserved
loop-r-preserved c = search (reset_more, rules)

pub shape_of-registers : goal.shape_of-registers
shape_of-registers c = search (reset_long, rules)

pub returns : goal.returns
returns c = search (reset_whole, rules)
