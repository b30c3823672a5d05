use Rattle.model.proofs.Laws.Passes.{pass_laws}
use Rattle.checker_nodes.proofs.NodeRules.{counts}
use Rattle.checker_nodes.proofs.CountRules.{count_laws}
use Rattle.checker_nodes.proofs.DepthRules.{table_laws}
use borrow.Author.Rules.{rules}
use Rattle.checker_nodes.proofs.passes.expressions.Goals as goal

pub loop-n-init : goal.loop-n-init
loop-n-init c = search (pass_laws, count_laws, table_laws, rules)

pub returns-then-not-expression_kept : goal.returns-then-not-expression_kept
returns-then-not-expression_kept c = record { found = search (pass_laws, counts); counted = search rules; filled = search rules }

pub loop-n-preserved : goal.loop-n-preserved
loop-n-preserved c = (search (pass_laws, rules), search (count_laws, rules), search (table_laws, rules))

pub returns : goal.returns
returns c = search (pass_laws, count_laws, table_laws, counts, rules)
