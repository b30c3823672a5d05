use Rattle.machine.proofs.FreeRules.{free_rule}
use borrow.Author.Rules.{rules}
use Rattle.machine.proofs.bindings.free.Goals as goal

pub returns : goal.returns
returns c = search (free_rule, rules)
