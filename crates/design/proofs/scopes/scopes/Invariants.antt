use Prim.Native.Nat.{◌≤◌}
use mathlib.Core.Path.{◌≡◌}
use lib.ListN.{length}
use Rattle.model.specs.Image.{design_of}
use Rattle.design.specs.Scopes.{with_scopes, ScopesBelow}
use Rattle.design.proofs.scopes.scopes.Given as goal

abbrev pub invariant-loop-s : goal.invariant-loop-s
invariant-loop-s l = ScopesBelow (design_of l.image.bytes.now) l.scopes l.s × (l.scopes ≡ with_scopes (design_of l.image.bytes.now) l.s l.initial.scopes) × (l.s ≤ l.image.design.states) × (length l.scopes ≡ length l.initial.scopes)
