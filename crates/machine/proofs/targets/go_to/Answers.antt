use Rattle.design.proofs.ResetRules.{state_fits}
use Rattle.machine.proofs.TargetRules.{gone_inside, gone_rule}
use borrow.Author.Rules.{rules}
use Rattle.machine.proofs.targets.go_to.Goals as goal

pub overflow_cast-targets : goal.overflow_cast-targets
overflow_cast-targets c = search (state_fits, rules)

pub bounds-targets-p : goal.bounds-targets-p
bounds-targets-p c = search (gone_inside, rules)

pub returns : goal.returns
returns c = search (gone_rule, rules)
