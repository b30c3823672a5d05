use Rattle.model.specs.Image.{design_of}
use Rattle.checker_bodies.proofs.ShapeRules.{LowestSo, FallsSo}
use Rattle.checker_bodies.proofs.shape.shapes.Given as goal

abbrev pub invariant-loop-s : goal.invariant-loop-s
invariant-loop-s l = LowestSo (design_of l.image.bytes.now) l.s l.place × FallsSo (design_of l.image.bytes.now) l.initial.falls l.s l.falls
