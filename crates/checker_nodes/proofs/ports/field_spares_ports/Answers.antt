use Rattle.checker_nodes.proofs.PortRules.{field_rule}
use borrow.Author.Rules.{rules}
use Rattle.checker_nodes.proofs.ports.field_spares_ports.Goals as goal

pub returns : goal.returns
returns c = search (field_rule, rules)
