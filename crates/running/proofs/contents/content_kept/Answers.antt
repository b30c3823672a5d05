use Rattle.design.proofs.WidthRules.{width_narrow}
use Rattle.running.proofs.RunningRules.{content_rule}
use borrow.Author.Rules.{rules}
use Rattle.running.proofs.contents.content_kept.Goals as goal

pub fits-requires : goal.fits-requires
fits-requires c = search (width_narrow, rules)

pub returns : goal.returns
returns c = search (content_rule, rules)
