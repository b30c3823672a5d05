use Rattle.encoding.proofs.PartRules.{put_begins, put_inside, put_more, put_done}
use borrow.Author.Rules.{rules}
use Rattle.encoding.proofs.parts.put.Goals as goal

pub loop-i-init : goal.loop-i-init
loop-i-init c = search (put_begins, rules)

pub bounds-bytes-at : goal.bounds-bytes-at
bounds-bytes-at c = search (put_inside, rules)

pub loop-i-preserved : goal.loop-i-preserved
loop-i-preserved c = search (put_more, rules)

pub returns : goal.returns
returns c = search (put_done, rules)
