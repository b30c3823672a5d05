use Rattle.design.proofs.ScopeRules.{reading_laws}
use borrow.Author.Rules.{rules}
use Rattle.design.proofs.scopes.in_scope.Goals as goal

pub bounds-scopes-s : goal.bounds-scopes-s
bounds-scopes-s c = search (reading_laws, rules)

pub returns : goal.returns
returns c = search (reading_laws, rules)
