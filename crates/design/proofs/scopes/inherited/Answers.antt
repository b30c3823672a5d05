use Rattle.design.proofs.ScopeRules.{scope_laws}
use borrow.Author.Rules.{rules}
use Rattle.design.proofs.scopes.inherited.Goals as goal

pub returns-then-s-eq0 : goal.returns-then-s-eq0
returns-then-s-eq0 c = search (scope_laws, rules)

pub bounds-scopes-parent : goal.bounds-scopes-parent
bounds-scopes-parent c = search (scope_laws, rules)

pub returns : goal.returns
returns c = search (scope_laws, rules)
