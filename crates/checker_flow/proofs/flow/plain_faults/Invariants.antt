-- What says that a place is the first fault is gathered by hand: it has more premises than a search follows.
use Rattle.model.specs.Image.{design_of}
use Rattle.checker_flow.specs.Masks.{Rows}
use Rattle.checker_flow.proofs.FaultRules.{NoneSo}
use Rattle.checker_flow.proofs.flow.plain_faults.Given as goal

abbrev pub invariant-loop-s : goal.invariant-loop-s
invariant-loop-s l = NoneSo (design_of l.image.bytes.now) l.labels l.s × Rows (design_of l.image.bytes.now) l.masks
