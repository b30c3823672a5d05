use Rattle.checker_bodies.proofs.shape.+judge.Given as goal

abbrev pub decreases-judge : goal.decreases-judge
decreases-judge l = l.n
