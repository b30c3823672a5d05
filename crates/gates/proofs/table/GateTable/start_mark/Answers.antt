use Rattle.gates.proofs.Laws.{flipflop_inside, start_mark_in}
use borrow.Author.Rules.{rules}
use Rattle.gates.proofs.table.GateTable.start_mark.Goals as goal

pub returns : goal.returns
returns c = search (start_mark_in, rules)

pub start_mark-requires : goal.start_mark-requires
start_mark-requires c = search (flipflop_inside, rules)
