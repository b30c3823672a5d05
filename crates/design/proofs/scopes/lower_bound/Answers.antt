use Rattle.design.proofs.ScopeRules.{bound_laws}
use borrow.Author.Rules.{rules}
use Rattle.design.proofs.scopes.lower_bound.Goals as goal

pub first_lower-requires : goal.first_lower-requires
first_lower-requires c = search (bound_laws, rules)

pub returns-then-v-eq0 : goal.returns-then-v-eq0
returns-then-v-eq0 c = search (bound_laws, rules)

pub returns : goal.returns
returns c = search (bound_laws, rules)
