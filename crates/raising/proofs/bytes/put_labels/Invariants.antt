use Rattle.raising.proofs.ByteRules.{PutSo}
use Rattle.raising.proofs.bytes.put_labels.Given as goal

abbrev pub invariant-loop-r : goal.invariant-loop-r
invariant-loop-r l = PutSo l.design.registers_at l.labels l.initial.image l.r l.image
