use Rattle.gates.proofs.VerdictRules.{wire_input, wire_flipflop, wire_gate}
use borrow.Author.Rules.{rules}
use Rattle.gates.proofs.verdicts.wire_kept.Goals as goal

pub returns-then-w-inputs : goal.returns-then-w-inputs
returns-then-w-inputs c = search (wire_input, rules)

pub returns-then-w-first_gate : goal.returns-then-w-first_gate
returns-then-w-first_gate c = search (wire_flipflop, rules)

pub returns : goal.returns
returns c = search (wire_gate, rules)
