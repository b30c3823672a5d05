use Rattle.design.proofs.Laws.{state_inside}
use Rattle.design.proofs.ScopeRules.{own_told}
use borrow.Author.Rules.{rules}
use borrow.Author.Tests.{tests}
use Rattle.design.proofs.scopes.has_own.Goals as goal

pub parameters-requires : goal.parameters-requires
parameters-requires c = search (state_inside, rules)

pub returns : goal.returns
returns c = search (own_told, rules, tests)
