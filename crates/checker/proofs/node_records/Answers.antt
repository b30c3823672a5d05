use Rattle.checker_nodes.proofs.CountRules.{counts_keep}
use Rattle.checker.proofs.StageRules.{expression_small, nodes_passed, nodes_left_lem}
use borrow.Author.Rules.{rules}
use Rattle.checker.proofs.node_records.Goals as goal

pub use_bodies-requires : goal.use_bodies-requires
use_bodies-requires c = (search rules, search rules)

pub commands-command-requires : goal.commands-command-requires
commands-command-requires c = (search (counts_keep, rules), search rules, search rules)

pub expressions-expression-requires : goal.expressions-expression-requires
expressions-expression-requires c = (search (counts_keep, rules), search rules)

pub commands_first-requires : goal.commands_first-requires
commands_first-requires c = λ n e. search (expression_small, rules)

pub returns : goal.returns
returns c = (search nodes_passed, search nodes_left_lem)
