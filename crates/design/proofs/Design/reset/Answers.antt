use Rattle.design.proofs.ResetRules.{as_long, reset_both}
use borrow.Author.Rules.{rules}
use Rattle.design.proofs.Design.reset.Goals as goal

pub default_targets-requires : goal.default_targets-requires
default_targets-requires c = search (as_long, rules)

pub returns : goal.returns
returns c = search (reset_both, rules)
