use Prim.Native.Nat.{◌≤◌}
use Rattle.model.specs.Image.{design_of}
use Rattle.design.specs.Resets.{Filled}
use Rattle.replay_steps.specs.Preparing.{largest_of}
use Rattle.replay_steps.proofs.preparing.largest_values.Given as goal

abbrev pub invariant-loop-r : goal.invariant-loop-r
invariant-loop-r l = Filled (largest_of (design_of l.image.bytes.now)) l.initial.largest l.r l.largest × (l.r ≤ l.image.design.registers)
