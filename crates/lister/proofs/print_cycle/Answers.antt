use Rattle.lister.proofs.PieceRules.{cycle_hands}
use borrow.Author.Rules.{rules}
use Rattle.lister.proofs.print_cycle.Goals as goal

pub print-requires : goal.print-requires
print-requires c = search (cycle_hands c.requires.2, rules)
