use Rattle.listing.proofs.TextRules.{field_begins, field_more, walk_inside}
use borrow.Author.Rules.{rules}
use Rattle.listing.proofs.fields.put_walk.Goals as goal

pub loop-i-init : goal.loop-i-init
loop-i-init c = search (field_begins, rules)

pub loop-i-preserved : goal.loop-i-preserved
loop-i-preserved c = search (field_more, walk_inside, rules)
