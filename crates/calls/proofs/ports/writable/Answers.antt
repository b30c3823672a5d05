use Rattle.calls.proofs.CallRules.{no_register_lem, port_rule}
use borrow.Author.Rules.{rules}
use Rattle.calls.proofs.ports.writable.Goals as goal

pub returns-then-image-r : goal.returns-then-image-r
returns-then-image-r c = search (no_register_lem, rules)

pub returns : goal.returns
returns c = search (port_rule, rules)
