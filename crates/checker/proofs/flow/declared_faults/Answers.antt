use Rattle.design.proofs.BoundRules.{scopes_short}
use Rattle.checker.proofs.StageRules.{scopes_fit}
use borrow.Author.Rules.{rules}
use Rattle.checker.proofs.flow.declared_faults.Goals as goal

pub scopes-requires : goal.scopes-requires
scopes-requires c = (search rules, search scopes_short, search (scopes_fit, rules))
