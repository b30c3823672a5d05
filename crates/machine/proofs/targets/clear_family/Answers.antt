use Rattle.machine.proofs.TargetRules.{clear_alone}
use Rattle.design.proofs.ResetRules.{entry_inside}
use borrow.Author.Rules.{rules}
use Rattle.machine.proofs.targets.clear_family.Goals as goal

pub bounds-defaults-t : goal.bounds-defaults-t
bounds-defaults-t c = search (entry_inside, rules)

pub returns-then-from-t : goal.returns-then-from-t
returns-then-from-t c = search (clear_alone, rules)
