use Rattle.lister.proofs.ListRules.{ListSo}
use Rattle.lister.proofs.print_cycles.Given as goal

abbrev pub invariant-loop-i : goal.invariant-loop-i
invariant-loop-i l = ListSo l.image.bytes.now l.image.design l.tables.defaults l.tables.scopes l.count l.initial.registers l.initial.targets l.i l.registers l.targets l.handed
