use Prim.Native.Nat.{◌+◌, ◌≤◌}
use mathlib.Core.Path.{◌≡◌}
use lib.ListN.{length}
use Rattle.gates_model.specs.Tables.{first_gate}
use Rattle.gates_model.specs.Cycle.{sources, settled}
use Rattle.gates.specs.Tables.{table_in}
use Rattle.gates.specs.Codes.{Carries}
use Rattle.gates.proofs.WireRules.{Beyond}
use Rattle.gates.proofs.wires.settle.Given as goal

abbrev pub invariant-loop-g : goal.invariant-loop-g
invariant-loop-g l = Carries (settled (table_in l.table) (sources (table_in l.table) l.inputs l.area) l.g) (first_gate (table_in l.table) + l.g) l.wires × Beyond l.initial.wires (first_gate (table_in l.table) + l.g) l.wires × (length l.wires ≡ 4608) × (l.g ≤ l.table.gates.gates)
