use Prim.Native.Nat.{◌*◌}
use mathlib.Core.Path.{◌≡◌}
use lib.ListN.{length}
use Rattle.gates.specs.Tables.{table_in}
use Rattle.gates.specs.Codes.{taken_signal, Written}
use Rattle.gates.proofs.changes.take.Given as goal

abbrev pub invariant-loop-i : goal.invariant-loop-i
invariant-loop-i l = Written (taken_signal (table_in l.table) l.wires) l.i l.area × (length l.area ≡ 2 * l.table.gates.flipflops)
