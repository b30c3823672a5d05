use Rattle.gates.proofs.Laws.{input_inside, mark_in_lem}
use borrow.Author.Rules.{rules}
use Rattle.gates.proofs.table.GateTable.mark.Goals as goal

pub returns : goal.returns
returns c = search (mark_in_lem, rules)

pub mark-requires : goal.mark-requires
mark-requires c = search (input_inside, rules)
