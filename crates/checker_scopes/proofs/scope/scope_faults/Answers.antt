use Rattle.checker_scopes.proofs.ScopeRules.{scopes_laws}
use borrow.Author.Rules.{rules}
use Rattle.checker_scopes.proofs.scope.scope_faults.Goals as goal

pub loop-s-init : goal.loop-s-init
loop-s-init c = search (scopes_laws, rules)

pub loop-s-preserved : goal.loop-s-preserved
loop-s-preserved c = search (scopes_laws, rules)

pub returns : goal.returns
returns c = search (scopes_laws, rules)
