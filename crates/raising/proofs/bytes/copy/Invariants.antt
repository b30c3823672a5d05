use Prim.Native.Nat.{◌-◌, ◌≤◌}
use lib.ListN.{length, get_or}
use Rattle.design.specs.Resets.{Filled}
use Rattle.raising.proofs.bytes.copy.Given as goal

abbrev pub invariant-loop-i : goal.invariant-loop-i
invariant-loop-i l = Filled (λ k. get_or l.from k 0) l.initial.to l.i l.to × (l.i ≤ length l.from)
