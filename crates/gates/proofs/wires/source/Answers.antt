use Rattle.gates.proofs.WireRules.{input_read, input_sound, input_coded, area_inside, area_sound, flipflop_coded}
use borrow.Author.Rules.{rules}
use Rattle.gates.proofs.wires.source.Goals as goal

pub bounds-inputs-w : goal.bounds-inputs-w
bounds-inputs-w c = search (input_read, rules)

pub code-requires : goal.code-requires
code-requires c = search (input_sound, rules)

pub returns-then-w-table : goal.returns-then-w-table
returns-then-w-table c = search (input_coded, rules)

pub signal-requires : goal.signal-requires
signal-requires c = (search (area_inside, rules), search (area_sound, rules))

pub returns : goal.returns
returns c = search (flipflop_coded, rules)
