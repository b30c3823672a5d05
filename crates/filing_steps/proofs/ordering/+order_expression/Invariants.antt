use Rattle.filing_steps.proofs.ordering.+order_expression.Given as goal

abbrev pub decreases-order_expression : goal.decreases-order_expression
decreases-order_expression l = l.e
