use Prim.Native.Nat.{◌≤◌}
use mathlib.Core.Path.{◌≡◌}
use lib.ListN.{length}
use Rattle.model.specs.Image.{design_of}
use Rattle.model.specs.Parameters.{parameters_kept}
use Rattle.model.proofs.Laws.Passes.{Passed}
use Rattle.design.specs.Scopes.{with_scopes, ScopesBelow}
use Rattle.checker_records.proofs.parameters.parameters.Given as goal

abbrev pub invariant-loop-s : goal.invariant-loop-s
invariant-loop-s l = Passed (parameters_kept (design_of l.image.bytes.now)) l.s × ScopesBelow (design_of l.image.bytes.now) l.scopes l.s × (l.scopes ≡ with_scopes (design_of l.image.bytes.now) l.s l.initial.scopes) × (l.s ≤ l.image.design.states) × (length l.scopes ≡ length l.initial.scopes)
