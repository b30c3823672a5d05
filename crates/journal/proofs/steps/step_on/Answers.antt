use Rattle.design.proofs.Laws.{registers_most}
use Rattle.design.proofs.ResetRules.{states_few}
use Rattle.journal.proofs.StageRules.{step_lacks_room, step_counts, step_too_far, step_none, step_room}
use borrow.Author.Rules.{rules}
use Rattle.journal.proofs.steps.step_on.Goals as goal

pub has_room-requires : goal.has_room-requires
has_room-requires c = (search (registers_most, rules), search (states_few, rules))

pub returns-then-not-has_room : goal.returns-then-not-has_room
returns-then-not-has_room c = search (step_lacks_room, step_too_far, rules)

pub saved_count-requires : goal.saved_count-requires
saved_count-requires c = search (step_counts, rules)

pub returns-then-saved_count-k : goal.returns-then-saved_count-k
returns-then-saved_count-k c = search (step_lacks_room, step_too_far, rules)

pub returns-then-k-eq0 : goal.returns-then-k-eq0
returns-then-k-eq0 c = search (step_none, rules)

pub step_counted-requires : goal.step_counted-requires
step_counted-requires c =
    let counted = c.saved_count.ensures in
    search (step_room, rules)
