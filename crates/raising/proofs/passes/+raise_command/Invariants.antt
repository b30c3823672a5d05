use Rattle.raising.proofs.passes.+raise_command.Given as goal

abbrev pub decreases-raise_command : goal.decreases-raise_command
decreases-raise_command l = l.n
