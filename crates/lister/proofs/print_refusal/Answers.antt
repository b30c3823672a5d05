use Rattle.lister.proofs.PieceRules.{refusal_hands}
use borrow.Author.Rules.{rules}
use Rattle.lister.proofs.print_refusal.Goals as goal

pub print-requires : goal.print-requires
print-requires c = search (refusal_hands, rules)
