use Rattle.checker_nodes.proofs.PortRules.{port_none, port_kind}
use borrow.Author.Rules.{rules}
use Rattle.checker_nodes.proofs.ports.is_port.Goals as goal

pub returns-then-image-r : goal.returns-then-image-r
returns-then-image-r c = search (port_none, port_kind, rules)

pub returns : goal.returns
returns c = search (port_none, port_kind, rules)
