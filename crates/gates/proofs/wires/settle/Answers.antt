use borrow.Author.Rules.{rules}
use Rattle.gates.proofs.WireRules.{settled_begins, beyond_same, first_inside, first_small, second_inside, second_small, gate_carried, gate_beyond, gates_carried, gates_known}
use Rattle.gates.proofs.wires.settle.Goals as goal

pub loop-g-init : goal.loop-g-init
loop-g-init c = search (settled_begins, beyond_same, rules)

pub bounds-wires-first : goal.bounds-wires-first
bounds-wires-first c = search (first_inside, rules)

pub bounds-wires-second : goal.bounds-wires-second
bounds-wires-second c = search (second_inside, rules)

pub nand-requires : goal.nand-requires
nand-requires c = (search (first_small, rules), search (second_small, rules))

pub loop-g-preserved : goal.loop-g-preserved
loop-g-preserved c = (search (gate_carried, rules), search (gate_beyond, rules), search rules, search rules)

pub returns : goal.returns
returns c = (search (gates_known, rules), search (gates_carried, rules))
