use Rattle.model.specs.Image.{design_of}
use Rattle.raising.proofs.StateRules.{OnceSo}
use Rattle.raising.proofs.passes.raise_once.Given as goal

abbrev pub invariant-loop-s : goal.invariant-loop-s
invariant-loop-s l = OnceSo (design_of l.image.bytes.now) l.initial.labels l.s l.labels l.moved
