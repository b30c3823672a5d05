use Rattle.checker_records.proofs.LatticeRules.{not_in, in_rule, label_small}
use borrow.Author.Rules.{rules}
use Rattle.checker_records.proofs.lattice.least_in.Goals as goal

pub bit-requires : goal.bit-requires
bit-requires c = search (label_small, rules)

pub returns-then-not-bit : goal.returns-then-not-bit
returns-then-not-bit c = search (not_in, rules)

pub returns : goal.returns
returns c = search (in_rule, rules)
