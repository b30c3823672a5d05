use Rattle.model.specs.Image.{AreBytes}
use Rattle.design.proofs.Laws.{registers_most}
use Rattle.design.proofs.ResetRules.{states_few}
use Rattle.running.proofs.RunningRules.{are_bytes}
use Rattle.journal.proofs.StageRules.{room_kept, room_refuses, run_makes}
use borrow.Author.Rules.{rules}
use Rattle.journal.proofs.runs.run_counted.Goals as goal

pub has_room-requires : goal.has_room-requires
has_room-requires c = (search (registers_most, rules), search (states_few, rules))

pub returns-then-not-has_room : goal.returns-then-not-has_room
returns-then-not-has_room c = search (room_refuses, rules)

pub cycles-requires : goal.cycles-requires
cycles-requires c = (search (room_kept, rules), search rules)

pub returns : goal.returns
returns c =
    let registers = c.cycles.new.registers in
    let bytes : AreBytes registers = are_bytes registers c.type_inv.registers in
    search (run_makes, rules)
