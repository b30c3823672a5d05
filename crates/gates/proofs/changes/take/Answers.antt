use borrow.Author.Rules.{rules}
use Rattle.gates.proofs.AreaRules.{put_long, take_more, take_whole}
use Rattle.gates.proofs.changes.take.Goals as goal

pub loop-i-preserved : goal.loop-i-preserved
loop-i-preserved c = (search (take_more, rules), search (put_long, rules))

pub returns : goal.returns
returns c = search (take_whole, rules)
