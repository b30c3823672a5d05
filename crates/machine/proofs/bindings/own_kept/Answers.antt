use Rattle.machine.proofs.BindingRules.{own_laws}
use borrow.Author.Rules.{rules}
use Rattle.machine.proofs.bindings.own_kept.Goals as goal

pub returns-then-own-eq0 : goal.returns-then-own-eq0
returns-then-own-eq0 c = search (own_laws, rules)

pub returns-then-own-eq1 : goal.returns-then-own-eq1
returns-then-own-eq1 c = search (own_laws, rules)

pub returns : goal.returns
returns c = search (own_laws, rules)
