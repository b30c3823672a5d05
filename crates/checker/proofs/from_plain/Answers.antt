use Rattle.design.proofs.ScopeRules.{empty_scopes}
use borrow.Author.Rules.{rules}
use Rattle.checker.proofs.from_plain.Goals as goal

pub from_children-requires : goal.from_children-requires
from_children-requires c = (search rules, search rules, search rules, search (empty_scopes, rules))
