use Rattle.machine.proofs.BindingRules.{may_rule, may_none}
use borrow.Author.Rules.{rules}
use Rattle.machine.proofs.bindings.may_bind.Goals as goal

pub returns-then-r-image : goal.returns-then-r-image
returns-then-r-image c = search (may_rule, rules)

pub returns : goal.returns
returns c = search (may_none, rules)
