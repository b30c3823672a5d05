use Rattle.gates.proofs.AreaRules.{next_inside, next_coded}
use borrow.Author.Rules.{rules}
use Rattle.gates.proofs.changes.next_code.Goals as goal

pub bounds-wires-next : goal.bounds-wires-next
bounds-wires-next c = search (next_inside, rules)

pub returns : goal.returns
returns c = search (next_coded, rules)
