use Rattle.listing.proofs.DecimalRules.{digits_begin, digits_more, digits_counted, digits_few}
use borrow.Author.Rules.{rules}
use Rattle.listing.proofs.decimal.digits.Goals as goal

pub loop-rest-init : goal.loop-rest-init
loop-rest-init c = search (digits_begin, rules)

pub loop-rest-preserved : goal.loop-rest-preserved
loop-rest-preserved c = search (digits_more, rules)

pub returns : goal.returns
returns c = (search (digits_counted, rules), search (digits_few, rules))
