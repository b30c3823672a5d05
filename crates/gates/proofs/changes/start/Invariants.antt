use Prim.Native.Nat.{◌*◌}
use mathlib.Core.Path.{◌≡◌}
use lib.ListN.{length}
use Rattle.gates_model.specs.Cycle.{start_signal}
use Rattle.gates.specs.Tables.{table_in}
use Rattle.gates.specs.Codes.{Written}
use Rattle.gates.proofs.changes.start.Given as goal

abbrev pub invariant-loop-i : goal.invariant-loop-i
invariant-loop-i l = Written (start_signal (table_in l.table)) l.i l.area × (length l.area ≡ 2 * l.table.gates.flipflops)
