use Rattle.model.specs.Image.{design_of}
use Rattle.checker_flow.specs.Masks.{Rows}
use Rattle.raising.proofs.StateRules.{TimesSo}
use Rattle.raising.proofs.passes.raise_labels.Given as goal

abbrev pub invariant-loop-passes : goal.invariant-loop-passes
invariant-loop-passes l = TimesSo (design_of l.image.bytes.now) l.initial.labels l.most l.passes l.labels × Rows (design_of l.image.bytes.now) l.masks
