use Rattle.gates.proofs.Laws.{flipflop_inside, value_in}
use borrow.Author.Rules.{rules}
use Rattle.gates.proofs.table.GateTable.start_value.Goals as goal

pub returns : goal.returns
returns c = search (value_in, rules)

pub start_value-requires : goal.start_value-requires
start_value-requires c = search (flipflop_inside, rules)
