use Rattle.design.proofs.ScopeRules.{scope_laws, scope_written, scopes_hold, inside_first, inside_second, inside_third}
use borrow.Author.Rules.{rules}
use Rattle.design.proofs.scopes.put_scope.Goals as goal

pub overflow_cast-scopes : goal.overflow_cast-scopes
overflow_cast-scopes c = search (scope_laws, scopes_hold, inside_first, inside_second, inside_third, rules)

pub bounds-scopes-at : goal.bounds-scopes-at
bounds-scopes-at c = search (scope_laws, scopes_hold, inside_first, inside_second, inside_third, rules)

pub bounds-scopes-at-2 : goal.bounds-scopes-at-2
bounds-scopes-at-2 c = search (scope_laws, scopes_hold, inside_first, inside_second, inside_third, rules)

pub bounds-scopes-at-3 : goal.bounds-scopes-at-3
bounds-scopes-at-3 c = search (scope_laws, scopes_hold, inside_first, inside_second, inside_third, rules)

pub returns : goal.returns
returns c = search (scope_laws, scope_written, rules)
