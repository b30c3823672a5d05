use Rattle.machine.proofs.BindingRules.{pointed}
use borrow.Author.Rules.{rules}
use Rattle.machine.proofs.cycle.point.Goals as goal

pub returns : goal.returns
returns c = search (pointed, rules)
