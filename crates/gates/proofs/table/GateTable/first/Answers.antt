use Rattle.gates.proofs.Laws.{gate_inside, first_in}
use borrow.Author.Rules.{rules}
use Rattle.gates.proofs.table.GateTable.first.Goals as goal

pub returns : goal.returns
returns c = (search (first_in, rules), search rules)

pub first-requires : goal.first-requires
first-requires c = search (gate_inside, rules)
