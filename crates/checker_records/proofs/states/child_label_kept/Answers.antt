use Rattle.checker_records.proofs.RecordRules.{child_laws}
use borrow.Author.Rules.{rules}
use Rattle.checker_records.proofs.states.child_label_kept.Goals as goal

pub returns-then-s-eq0 : goal.returns-then-s-eq0
returns-then-s-eq0 c = search (child_laws, rules)

pub bounds-falls-parent : goal.bounds-falls-parent
bounds-falls-parent c = search (child_laws, rules)

pub returns-then-falls-parent-eq0 : goal.returns-then-falls-parent-eq0
returns-then-falls-parent-eq0 c = search (child_laws, rules)

pub bounds-defaults-parent : goal.bounds-defaults-parent
bounds-defaults-parent c = search (child_laws, rules)

pub overflow_cast-s : goal.overflow_cast-s
overflow_cast-s c = search (child_laws, rules)

pub returns-then-defaults-parent : goal.returns-then-defaults-parent
returns-then-defaults-parent c = search (child_laws, rules)

pub label_above-requires : goal.label_above-requires
label_above-requires c = search (child_laws, rules)

pub returns : goal.returns
returns c = search (child_laws, rules)
