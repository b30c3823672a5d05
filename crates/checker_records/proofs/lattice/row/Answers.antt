use Rattle.checker_records.proofs.LatticeRules.{row_rule}
use borrow.Author.Rules.{rules}
use Rattle.checker_records.proofs.lattice.row.Goals as goal

pub returns : goal.returns
returns c = search (row_rule, rules)
