use Rattle.checker_scopes.proofs.scope.+reads.Given as goal

abbrev pub decreases-reads : goal.decreases-reads
decreases-reads l = l.e
