use Rattle.checker_nodes.proofs.NodeRules.{command_rules}
use borrow.Author.Rules.{rules}
use Rattle.checker_nodes.proofs.kinds.command_kept.Goals as goal

pub returns-in-0 : goal.returns-in-0
returns-in-0 c = search (command_rules, rules)

pub returns-in-1 : goal.returns-in-1
returns-in-1 c = search (command_rules, rules)

pub returns-in-2 : goal.returns-in-2
returns-in-2 c = search (command_rules, rules)

pub returns-in-4 : goal.returns-in-4
returns-in-4 c = search (command_rules, rules)

pub returns-in-5 : goal.returns-in-5
returns-in-5 c = search (command_rules, rules)

pub returns-in_default : goal.returns-in_default
returns-in_default c = search (command_rules, rules)
