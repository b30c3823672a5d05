use Rattle.design.proofs.Laws.{expressions_most}
use Rattle.pruning_steps.proofs.StayingRules.{downward_begins, downward_more, downward_done, downward_whole, expressions_are, fresh_expressions, expression_met}
use borrow.Author.Rules.{rules}
use Rattle.pruning_steps.proofs.staying.staying_expressions.Goals as goal

pub mark_values-requires : goal.mark_values-requires
mark_values-requires c = search (fresh_expressions, rules)

pub loop-n-init : goal.loop-n-init
loop-n-init c = search (downward_begins, expressions_are, expressions_most, rules)

pub mark_operands-requires : goal.mark_operands-requires
mark_operands-requires c = search (expression_met, rules)

pub loop-n-preserved : goal.loop-n-preserved
loop-n-preserved c = search (downward_more, expressions_are, rules)

pub returns : goal.returns
returns c = (search (downward_whole, expressions_are, rules), search (downward_done, expressions_are, rules))
