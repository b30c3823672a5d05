use Rattle.lister.proofs.PieceRules.{short_handed}
use borrow.Author.Rules.{rules}
use Rattle.lister.proofs.list_input.Goals as goal

pub returns-then-input-lt2 : goal.returns-then-input-lt2
returns-then-input-lt2 c = search (short_handed, rules)
