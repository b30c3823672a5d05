use Rattle.checker_nodes.proofs.PortRules.{port_rules}
use Rattle.design.proofs.Laws.{state_inside}
use borrow.Author.Rules.{rules}
use Rattle.checker_nodes.proofs.ports.names_no_port.Goals as goal

pub parameters-requires : goal.parameters-requires
parameters-requires c = search (port_rules, state_inside, rules)

pub returns-then-parameters-eq0 : goal.returns-then-parameters-eq0
returns-then-parameters-eq0 c = search (port_rules, rules)

pub field_spares_ports-requires : goal.field_spares_ports-requires
field_spares_ports-requires c = search (port_rules, rules)

pub field_spares_ports-requires-in-4 : goal.field_spares_ports-requires-in-4
field_spares_ports-requires-in-4 c = search (port_rules, rules)

pub returns-in-1 : goal.returns-in-1
returns-in-1 c = search (port_rules, rules)

pub returns-else-parameters-eq0 : goal.returns-else-parameters-eq0
returns-else-parameters-eq0 c = search (port_rules, rules)

pub returns-in_default : goal.returns-in_default
returns-in_default c = search (port_rules, rules)
