use Rattle.checker_flow.proofs.flow.+reads.Given as goal

abbrev pub decreases-reads : goal.decreases-reads
decreases-reads l = l.e
