use Rattle.checker_records.proofs.LatticeRules.{not_least, least_rule, labels_small}
use Rattle.design.proofs.Laws.{labels_count}
use borrow.Author.Rules.{rules}
use Rattle.checker_records.proofs.lattice.least_full.Goals as goal

pub returns-then-i-ne0 : goal.returns-then-i-ne0
returns-then-i-ne0 c = search (not_least, rules)

pub full-every-requires : goal.full-every-requires
full-every-requires c = search (labels_small, rules)

pub returns : goal.returns
returns c = search (least_rule, labels_count, rules)
