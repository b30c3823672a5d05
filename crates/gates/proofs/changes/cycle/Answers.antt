use Rattle.gates.proofs.AreaRules.{lends_long, cycle_makes}
use borrow.Author.Rules.{rules}
use Rattle.gates.proofs.changes.cycle.Goals as goal

pub take-requires : goal.take-requires
take-requires c = (search rules, search rules, search (lends_long, rules))

pub returns : goal.returns
returns c = search (cycle_makes, rules)
