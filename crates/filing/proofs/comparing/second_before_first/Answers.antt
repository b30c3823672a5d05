use Rattle.filing.proofs.TableRules.{read_keeps, accepted_filing}
use borrow.Author.Rules.{rules}
use Rattle.filing.proofs.comparing.second_before_first.Goals as goal

pub fill-requires : goal.fill-requires
fill-requires c = search (accepted_filing, rules)

pub second_before-requires : goal.second_before-requires
second_before-requires c = search (read_keeps, accepted_filing, rules)

pub returns : goal.returns
returns c = rw (← c.read-second.ensures) (search rules)
