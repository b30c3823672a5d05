use Rattle.filing.proofs.TableRules.{read_keeps, accepted_filing}
use borrow.Author.Rules.{rules}
use Rattle.filing.proofs.writing.write_accepted.Goals as goal

pub fill-requires : goal.fill-requires
fill-requires c = search (accepted_filing, rules)

pub write-requires : goal.write-requires
write-requires c = (search (read_keeps, rules), search (accepted_filing, rules), search rules, rw c.read-image.ensures (search rules))

pub returns : goal.returns
returns c = rw (← c.read-image.ensures) (search rules)
