use Rattle.gates.proofs.Laws.{flipflop_inside, next_in}
use borrow.Author.Rules.{rules}
use Rattle.gates.proofs.table.GateTable.next.Goals as goal

pub returns : goal.returns
returns c = (search (next_in, rules), search rules)

pub next-requires : goal.next-requires
next-requires c = search (flipflop_inside, rules)
