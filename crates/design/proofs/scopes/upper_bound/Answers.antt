use Rattle.design.proofs.ScopeRules.{bound_laws}
use borrow.Author.Rules.{rules}
use Rattle.design.proofs.scopes.upper_bound.Goals as goal

pub first_upper-requires : goal.first_upper-requires
first_upper-requires c = search (bound_laws, rules)

pub returns-then-v-eq0 : goal.returns-then-v-eq0
returns-then-v-eq0 c = search (bound_laws, rules)

pub returns : goal.returns
returns c = search (bound_laws, rules)
