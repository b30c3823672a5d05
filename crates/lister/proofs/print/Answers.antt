use Rattle.lister.proofs.PieceRules.{hands_counted}
use borrow.Author.Rules.{rules}
use Rattle.lister.proofs.print.Goals as goal

pub overflow_add-handed : goal.overflow_add-handed
overflow_add-handed c = search (hands_counted, rules)
