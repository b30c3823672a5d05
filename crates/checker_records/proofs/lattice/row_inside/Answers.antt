use Rattle.checker_records.proofs.LatticeRules.{inside_rule, labels_small}
use borrow.Author.Rules.{rules}
use Rattle.checker_records.proofs.lattice.row_inside.Goals as goal

pub overflow_shr-result : goal.overflow_shr-result
overflow_shr-result c = search (labels_small, rules)

pub returns : goal.returns
returns c = search (inside_rule, rules)
