use Rattle.filing.proofs.WritingRules.{FormPut}
use Rattle.filing.proofs.writing.write.Given as goal

abbrev pub invariant-loop-i : goal.invariant-loop-i
invariant-loop-i l = FormPut l.image.bytes.now l.initial.out l.i l.out
