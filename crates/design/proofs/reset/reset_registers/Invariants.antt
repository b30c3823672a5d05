use Prim.Native.Nat.{◌≤◌}
use Rattle.model.specs.Image.{design_of}
use Rattle.design.proofs.ResetRules.{ResetSo}
use Rattle.design.proofs.reset.reset_registers.Given as goal

abbrev pub invariant-loop-r : goal.invariant-loop-r
invariant-loop-r l = ResetSo (design_of l.image.bytes.now) l.initial.registers l.r l.registers × (l.r ≤ l.image.design.registers)
