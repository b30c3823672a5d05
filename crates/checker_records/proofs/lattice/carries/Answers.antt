use Rattle.checker_records.proofs.LatticeRules.{carries_nothing, carries_rule, label_small}
use borrow.Author.Rules.{rules}
use Rattle.checker_records.proofs.lattice.carries.Goals as goal

pub bit-requires : goal.bit-requires
bit-requires c = search (label_small, rules)

pub returns-then-not-bit : goal.returns-then-not-bit
returns-then-not-bit c = search (carries_nothing, rules)

pub returns : goal.returns
returns c = search (carries_rule, rules)
