use Rattle.checker_scopes.proofs.PlainRules.{inner_none, inner_kind}
use borrow.Author.Rules.{rules}
use Rattle.checker_scopes.proofs.plain.inner.Goals as goal

pub returns-then-image-r : goal.returns-then-image-r
returns-then-image-r c = search (inner_none, inner_kind, rules)

pub returns : goal.returns
returns c = search (inner_none, inner_kind, rules)
