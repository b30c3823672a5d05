use Rattle.filing_steps.proofs.ordering.+order_command.Given as goal

abbrev pub decreases-order_command : goal.decreases-order_command
decreases-order_command l = l.n
