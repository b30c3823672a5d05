use Prim.Native.Nat.{◌≤◌}
use Rattle.model.specs.Image.{design_of}
use Rattle.design.proofs.ResetRules.{DefaultsSo}
use Rattle.design.proofs.reset.default_targets.Given as goal

abbrev pub invariant-loop-s : goal.invariant-loop-s
invariant-loop-s l = DefaultsSo (design_of l.image.bytes.now) l.initial.table l.s l.table × (l.s ≤ l.image.design.states)
