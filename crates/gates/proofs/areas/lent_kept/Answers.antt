use Rattle.gates.proofs.AreaRules.{lent_input, lent_flipflop}
use borrow.Author.Rules.{rules}
use Rattle.gates.proofs.areas.lent_kept.Goals as goal

pub returns-then-w-table : goal.returns-then-w-table
returns-then-w-table c = search (lent_input, rules)

pub returns : goal.returns
returns c = search (lent_flipflop, rules)
