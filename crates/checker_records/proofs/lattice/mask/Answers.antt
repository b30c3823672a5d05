use Rattle.checker_records.proofs.LatticeRules.{mask_rule, labels_small}
use borrow.Author.Rules.{rules}
use Rattle.checker_records.proofs.lattice.mask.Goals as goal

pub full-requires : goal.full-requires
full-requires c = search (labels_small, rules)

pub returns : goal.returns
returns c = search (mask_rule, rules)
