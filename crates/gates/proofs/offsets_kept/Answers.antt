use Rattle.gates.proofs.Laws.{offsets_rule}
use borrow.Author.Rules.{rules}
use Rattle.gates.proofs.offsets_kept.Goals as goal

pub returns : goal.returns
returns c = search (offsets_rule, rules)
