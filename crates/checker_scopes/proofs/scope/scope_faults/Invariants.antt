use Rattle.model.specs.Image.{design_of}
use Rattle.checker_scopes.proofs.ScopeRules.{ScopedSo}
use Rattle.checker_scopes.proofs.scope.scope_faults.Given as goal

abbrev pub invariant-loop-s : goal.invariant-loop-s
invariant-loop-s l = ScopedSo (design_of l.image.bytes.now) l.s l.place
