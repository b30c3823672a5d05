use Rattle.model.specs.Image.{AreBytes}
use Rattle.running.proofs.RunningRules.{are_bytes}
use Rattle.journal_saving.proofs.SavingRules.{state_room, cycle_saved}
use borrow.Author.Rules.{rules}
use Rattle.journal_saving.proofs.saving.saved_cycle.Goals as goal

pub save-requires : goal.save-requires
save-requires c = search (state_room, rules)

pub returns : goal.returns
returns c =
    let registers = c.cycles.new.registers in
    let bytes : AreBytes registers = are_bytes registers c.type_inv.registers in
    record { cycle_saved = search (cycle_saved, rules); running = search rules }
