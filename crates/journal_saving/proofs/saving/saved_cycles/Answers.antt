use Rattle.design.proofs.Laws.{registers_most}
use Rattle.design.proofs.ResetRules.{states_few}
use Rattle.journal_saving.proofs.SavingRules.{saved_begins, saved_running, saved_room, saved_at_fits, saved_more, saved_registers_long, saved_targets_long, saved_journal_long, saved_areas, saved_done}
use borrow.Author.Rules.{rules}
use Rattle.journal_saving.proofs.saving.saved_cycles.Goals as goal

pub saved_length-each-requires : goal.saved_length-each-requires
saved_length-each-requires c = (search (registers_most, rules), search (states_few, rules))

pub loop-i-init : goal.loop-i-init
loop-i-init c = search (saved_begins, rules)

pub saved_cycle-requires : goal.saved_cycle-requires
saved_cycle-requires c = (search (saved_running, rules), search (saved_room, rules))

pub overflow_add-at : goal.overflow_add-at
overflow_add-at c = search (saved_at_fits, rules)

pub loop-i-preserved : goal.loop-i-preserved
loop-i-preserved c = search (saved_more, rules)

pub shape_of-registers : goal.shape_of-registers
shape_of-registers c = search (saved_registers_long, rules)

pub shape_of-targets : goal.shape_of-targets
shape_of-targets c = search (saved_targets_long, rules)

pub shape_of-journal : goal.shape_of-journal
shape_of-journal c = search (saved_journal_long, rules)

pub returns : goal.returns
returns c = record { targets_after = search (saved_areas, rules); journal_after = search (saved_done, rules); running = search (saved_running, rules) }
