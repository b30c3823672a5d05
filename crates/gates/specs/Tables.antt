-- What is said of a `GateTable`: the table that it holds, and that the table is accepted.
use Rattle.gates_model.specs.Tables.{Table, table_of}
use Rattle.gates_model.specs.Rules.{TableKeeps}
use Rattle.gates.specs.declared.table.GateTable.{GateTable}

abbrev pub table_in : GateTable → Table
table_in t = table_of t.bytes.now

abbrev pub KeepsIn : GateTable → Type 0
KeepsIn t = TableKeeps t.bytes.now
