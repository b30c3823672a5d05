use Prim.Native.Nat.{◌≤◌}
use Rattle.design.specs.Resets.{Filled}
use Rattle.design.proofs.reset.own_numbers.Given as goal

abbrev pub invariant-loop-s : goal.invariant-loop-s
invariant-loop-s l = Filled (λ k. k) l.initial.table l.s l.table × (l.s ≤ l.states)
