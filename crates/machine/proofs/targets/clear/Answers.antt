use Rattle.machine.proofs.TargetRules.{state_few, parent_few, clear_begins, clear_more, clear_all}
use Rattle.design.proofs.ResetRules.{entry_inside}
use borrow.Author.Rules.{rules}
use Rattle.machine.proofs.targets.clear.Goals as goal

pub bounds-marks-t : goal.bounds-marks-t
bounds-marks-t c = search (state_few, rules)

pub bounds-defaults-t : goal.bounds-defaults-t
bounds-defaults-t c = search (entry_inside, rules)

pub loop-s-init : goal.loop-s-init
loop-s-init c = search (clear_begins, rules)

pub bounds-marks-p : goal.bounds-marks-p
bounds-marks-p c = search (parent_few, rules)

pub loop-s-preserved : goal.loop-s-preserved
loop-s-preserved c = search (clear_more, rules)

pub returns : goal.returns
returns c = search (clear_all, rules)
