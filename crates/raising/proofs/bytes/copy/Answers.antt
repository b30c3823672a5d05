use Rattle.design.proofs.ResetRules.{filled_none, filled_more}
use Rattle.raising.proofs.ByteRules.{copied}
use borrow.Author.Rules.{rules}
use Rattle.raising.proofs.bytes.copy.Goals as goal

pub loop-i-init : goal.loop-i-init
loop-i-init c = search (filled_none, rules)

pub loop-i-preserved : goal.loop-i-preserved
loop-i-preserved c = search (filled_more, rules)

pub returns : goal.returns
returns c = search (copied, rules)
