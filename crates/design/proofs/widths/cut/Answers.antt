use Rattle.design.proofs.ShiftRules.{width_some, cut_rule, masked_fits}
use borrow.Author.Rules.{rules}
use Rattle.design.proofs.widths.cut.Goals as goal

pub overflow_sub-mask : goal.overflow_sub-mask
overflow_sub-mask c = search (width_some, rules)

pub overflow_cast-result-2 : goal.overflow_cast-result-2
overflow_cast-result-2 c = search (masked_fits, rules)

pub returns : goal.returns
returns c = search (cut_rule, rules)
