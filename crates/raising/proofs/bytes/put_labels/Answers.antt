use Rattle.raising.proofs.ByteRules.{put_laws, put_more}
use borrow.Author.Rules.{rules}
use Rattle.raising.proofs.bytes.put_labels.Goals as goal

pub loop-r-preserved : goal.loop-r-preserved
loop-r-preserved c = search (put_more, rules)

pub returns : goal.returns
returns c = search (put_laws, rules)
