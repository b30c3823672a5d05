use Rattle.checker_flow.proofs.ScopeRules.{bounds_laws}
use borrow.Author.Rules.{rules}
use Rattle.checker_flow.proofs.masks.bounds_in_scope.Goals as goal

pub bounds-scopes-s : goal.bounds-scopes-s
bounds-scopes-s c = search (bounds_laws, rules)

pub returns-then-from-i : goal.returns-then-from-i
returns-then-from-i c = search (bounds_laws, rules)

pub bounds-scopes-s-2 : goal.bounds-scopes-s-2
bounds-scopes-s-2 c = search (bounds_laws, rules)

pub lower_bound-requires : goal.lower_bound-requires
lower_bound-requires c = search (bounds_laws, rules)

pub upper_bound-requires : goal.upper_bound-requires
upper_bound-requires c = search (bounds_laws, rules)

pub returns : goal.returns
returns c = search (bounds_laws, rules)
