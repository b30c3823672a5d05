use Rattle.lister.proofs.PieceRules.{header_hands}
use borrow.Author.Rules.{rules}
use Rattle.lister.proofs.print_header.Goals as goal

pub print-requires : goal.print-requires
print-requires c = search (header_hands, rules)
