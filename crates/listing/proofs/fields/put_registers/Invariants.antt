use Prim.Native.Nat.{◌≤◌}
use Rattle.model.specs.Values.{words_of}
use Rattle.listing.proofs.TextRules.{FieldSo}
use Rattle.listing.proofs.fields.put_registers.Given as goal

abbrev pub invariant-loop-i : goal.invariant-loop-i
invariant-loop-i l = FieldSo (words_of l.count l.registers) l.initial.out l.at l.i l.out l.p × (l.i ≤ l.count)
