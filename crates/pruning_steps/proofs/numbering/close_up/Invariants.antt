use Prim.Native.Nat.{◌≤◌}
use mathlib.Core.Path.{◌≡◌}
use Rattle.design.specs.Resets.{Filled}
use Rattle.pruning_model.specs.Pruned.{closed_up}
use Rattle.pruning_steps.specs.Marks.{is_marked}
use Rattle.pruning_steps.proofs.numbering.close_up.Given as goal

abbrev pub invariant-loop-k : goal.invariant-loop-k
invariant-loop-k l = Filled (closed_up (is_marked l.marks)) l.initial.numbers l.k l.numbers × (l.k ≤ l.count) × (l.next ≡ closed_up (is_marked l.marks) l.k)
