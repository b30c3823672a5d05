use Rattle.encoding.proofs.PartRules.{PutSo}
use Rattle.encoding.proofs.parts.put.Given as goal

abbrev pub invariant-loop-i : goal.invariant-loop-i
invariant-loop-i l = PutSo l.part l.initial.bytes l.at l.i l.bytes
