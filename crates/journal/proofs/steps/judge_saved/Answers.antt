use Rattle.design.proofs.ResetRules.{states_few, fresh_defaults}
use Rattle.machine.proofs.TableRules.{states_kept}
use Rattle.calls.proofs.CallRules.{area_fits, targets_fit}
use Rattle.journal.proofs.StepRules.{saved_end, saved_middle, middle_fits, end_fits, saved_registers_long, saved_targets_long, judged_saved}
use borrow.Author.Rules.{rules}
use Rattle.journal.proofs.steps.judge_saved.Goals as goal

pub default_targets-requires : goal.default_targets-requires
default_targets-requires c = (search (states_kept, rules), search (states_few, rules))

pub overflow_mul-behind : goal.overflow_mul-behind
overflow_mul-behind c = search (area_fits, rules)

pub overflow_add-behind : goal.overflow_add-behind
overflow_add-behind c = search (middle_fits, rules)

pub overflow_mul-end : goal.overflow_mul-end
overflow_mul-end c = search (targets_fit, rules)

pub overflow_add-end : goal.overflow_add-end
overflow_add-end c = search (end_fits, rules)

pub slice_bounds-judge-end-2 : goal.slice_bounds-judge-end-2
slice_bounds-judge-end-2 c = search (saved_middle, rules)

pub slice_bounds-judge-end-3 : goal.slice_bounds-judge-end-3
slice_bounds-judge-end-3 c = search (saved_end, rules)

pub judge-requires : goal.judge-requires
judge-requires c = (search rules, search (fresh_defaults, rules), search (saved_registers_long, rules), search (saved_targets_long, rules))

pub returns : goal.returns
returns c = search (judged_saved, rules)
