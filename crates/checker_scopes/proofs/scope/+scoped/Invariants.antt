use Rattle.checker_scopes.proofs.scope.+scoped.Given as goal

abbrev pub decreases-scoped : goal.decreases-scoped
decreases-scoped l = l.n
