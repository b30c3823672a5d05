use Rattle.pruning_steps.proofs.reaching.+find_successors.Given as goal

abbrev pub decreases-find_successors : goal.decreases-find_successors
decreases-find_successors l = l.n
