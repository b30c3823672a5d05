use Rattle.listing.proofs.DecimalRules.{decimal_begins, decimal_more, decimal_done, decimal_short}
use borrow.Author.Rules.{rules}
use Rattle.listing.proofs.decimal.put_decimal.Goals as goal

pub loop-k-init : goal.loop-k-init
loop-k-init c = search (decimal_begins, rules)

pub loop-k-preserved : goal.loop-k-preserved
loop-k-preserved c = search (decimal_more, rules)

pub returns : goal.returns
returns c = record { put = search (decimal_done, rules); upper_bound = search (decimal_short, rules) }
