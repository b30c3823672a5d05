use Rattle.design.proofs.Laws.{offsets_rule}
use borrow.Author.Rules.{rules}
use Rattle.design.proofs.offsets_kept.Goals as goal

pub returns : goal.returns
returns c = search (offsets_rule, rules)
