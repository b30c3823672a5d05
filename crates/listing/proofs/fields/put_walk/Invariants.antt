use Prim.Native.Nat.{◌≤◌}
use lib.ListN.{take}
use Rattle.listing.proofs.TextRules.{FieldSo}
use Rattle.listing.proofs.fields.put_walk.Given as goal

abbrev pub invariant-loop-i : goal.invariant-loop-i
invariant-loop-i l = FieldSo (take l.count l.walk) l.initial.out l.at l.i l.out l.p × (l.i ≤ l.count)
