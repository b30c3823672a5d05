use Prim.Native.Nat.{◌≤◌}
use Rattle.model.specs.Image.{design_of}
use Rattle.model.specs.Lattice.{register_label}
use Rattle.design.specs.Resets.{Filled}
use Rattle.design.proofs.labels.register_labels.Given as goal

abbrev pub invariant-loop-r : goal.invariant-loop-r
invariant-loop-r l = Filled (register_label (design_of l.image.bytes.now)) l.initial.table l.r l.table × (l.r ≤ l.image.design.registers)
