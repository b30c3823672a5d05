use Rattle.checker_scopes.proofs.ScopeRules.{state_scope_laws}
use borrow.Author.Rules.{rules}
use Rattle.checker_scopes.proofs.scope.state_scope.Goals as goal

pub scoped-requires : goal.scoped-requires
scoped-requires c = search (state_scope_laws, rules)

pub returns : goal.returns
returns c = search (state_scope_laws, rules)
