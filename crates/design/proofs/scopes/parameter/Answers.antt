use Rattle.design.proofs.ScopeRules.{scope_laws}
use borrow.Author.Rules.{rules}
use Rattle.design.proofs.scopes.parameter.Goals as goal

pub bounds-scopes-parent : goal.bounds-scopes-parent
bounds-scopes-parent c = search (scope_laws, rules)

pub returns-then-i-above : goal.returns-then-i-above
returns-then-i-above c = search (scope_laws, rules)

pub returns-then-own-parameters : goal.returns-then-own-parameters
returns-then-own-parameters c = search (scope_laws, rules)

pub returns : goal.returns
returns c = search (scope_laws, rules)
