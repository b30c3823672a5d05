use Rattle.raising.proofs.StageRules.{own_table, own_raising, own_raised}
use borrow.Author.Rules.{rules}
use Rattle.raising.proofs.raise_within.Goals as goal

pub raise_from-requires : goal.raise_from-requires
raise_from-requires c = (search rules, search (own_raising, rules), search (own_table, rules), search rules)

pub returns : goal.returns
returns c = (search rules, search (own_raised, rules))
