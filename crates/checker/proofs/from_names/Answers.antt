use Rattle.checker_scopes.proofs.PlainRules.{plain_known, plain_none}
use Rattle.checker.proofs.StageRules.{plain_passes}
use borrow.Author.Rules.{rules}
use Rattle.checker.proofs.from_names.Goals as goal

pub from_plain-requires : goal.from_plain-requires
from_plain-requires c = (search rules, search (plain_known, rules), search (plain_none, rules), search rules)

pub returns-then-plain : goal.returns-then-plain
returns-then-plain c = search (plain_passes, rules)
