use Rattle.checker_flow.proofs.flow.+flow.Given as goal

abbrev pub decreases-flow : goal.decreases-flow
decreases-flow l = l.n
