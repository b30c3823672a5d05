use Rattle.design.proofs.Laws.{registers_most}
use Rattle.design.proofs.ResetRules.{states_few}
use Rattle.journal_saving.proofs.SavingRules.{room_behind, journal_made, count_fits, count_inside}
use borrow.Author.Rules.{rules}
use Rattle.journal_saving.proofs.saving.cycles.Goals as goal

pub overflow_add-raised : goal.overflow_add-raised
overflow_add-raised c = search (count_fits, rules)

pub saved_place-place-requires : goal.saved_place-place-requires
saved_place-place-requires c = (search (registers_most, rules), search (states_few, rules))

pub saved_cycles-requires : goal.saved_cycles-requires
saved_cycles-requires c = (search rules, search (room_behind, rules))

pub put_word-requires : goal.put_word-requires
put_word-requires c = search (count_inside, rules)

pub returns : goal.returns
returns c = record { targets_after = search rules; journal_after = search (journal_made, rules); running = search rules }
