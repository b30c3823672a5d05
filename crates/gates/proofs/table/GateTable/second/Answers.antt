use Rattle.gates.proofs.Laws.{gate_inside, second_in}
use borrow.Author.Rules.{rules}
use Rattle.gates.proofs.table.GateTable.second.Goals as goal

pub returns : goal.returns
returns c = (search (second_in, rules), search rules)

pub second-requires : goal.second-requires
second-requires c = search (gate_inside, rules)
