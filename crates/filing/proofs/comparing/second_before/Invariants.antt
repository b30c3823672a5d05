use Rattle.filing.proofs.ComparingRules.{FormsAlike}
use Rattle.filing.proofs.comparing.second_before.Given as goal

abbrev pub invariant-loop-i : goal.invariant-loop-i
invariant-loop-i l = FormsAlike l.first.bytes.now l.second.bytes.now l.i
