use Prim.Native.Nat.{◌+◌, ◌≤◌}
use mathlib.Core.Path.{◌≡◌}
use lib.ListN.{length}
use Rattle.gates_model.specs.Cycle.{sources}
use Rattle.gates.specs.Tables.{table_in}
use Rattle.gates.specs.Codes.{Carries}
use Rattle.gates.proofs.WireRules.{Beyond}
use Rattle.gates.proofs.wires.put_sources.Given as goal

abbrev pub invariant-loop-w : goal.invariant-loop-w
invariant-loop-w l = Carries (sources (table_in l.table) l.inputs l.area) l.w l.wires × Beyond l.initial.wires l.w l.wires × (length l.wires ≡ 4608) × (l.w ≤ l.table.gates.inputs + l.table.gates.flipflops)
