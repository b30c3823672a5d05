use Rattle.machine.proofs.BindingRules.{kept_on, kept_off}
use borrow.Author.Rules.{rules}
use Rattle.machine.proofs.bindings.kept.Goals as goal

pub returns-then-s-next : goal.returns-then-s-next
returns-then-s-next c = search (kept_on, rules)

pub returns : goal.returns
returns c = search (kept_off, rules)
