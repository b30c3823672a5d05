use Rattle.design.proofs.Laws.{registers_most}
use Rattle.design.proofs.ResetRules.{states_few}
use Rattle.journal.proofs.StepRules.{back_fits, back_counts, saved_inside, areas_inside, step_unsound, step_made}
use borrow.Author.Rules.{rules}
use Rattle.journal.proofs.steps.step_counted.Goals as goal

pub overflow_sub-count : goal.overflow_sub-count
overflow_sub-count c = search (back_fits, rules)

pub saved_place-at-requires : goal.saved_place-at-requires
saved_place-at-requires c = (search (registers_most, rules), search (states_few, rules))

pub judge_saved-requires : goal.judge_saved-requires
judge_saved-requires c = (search rules, search (saved_inside, rules))

pub restore-requires : goal.restore-requires
restore-requires c = (search (areas_inside, rules), search (back_counts, rules))

pub returns-in_err-judge_saved : goal.returns-in_err-judge_saved
returns-in_err-judge_saved c =
    let made = step_unsound c.requires c.saved_count.ensures c.saved_place-at.ensures c.in_err-judge_saved.was c.judge_saved.ensures in
    search rules

pub returns : goal.returns
returns c = let was = c.in_ok-judge_saved.was in search (step_made, rules)
