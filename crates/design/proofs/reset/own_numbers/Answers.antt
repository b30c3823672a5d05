use Rattle.design.proofs.ResetRules.{filled_none, filled_within, filled_to_lem}
use borrow.Author.Rules.{rules}
use Rattle.design.proofs.reset.own_numbers.Goals as goal

pub loop-s-init : goal.loop-s-init
loop-s-init c = search (filled_none, rules)

pub loop-s-preserved : goal.loop-s-preserved
loop-s-preserved c = search (filled_within, rules)

pub returns : goal.returns
returns c = search (filled_to_lem, rules)
