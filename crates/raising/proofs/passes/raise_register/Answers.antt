use Rattle.raising.proofs.PassRules.{assignment_laws}
use borrow.Author.Rules.{rules}
use Rattle.raising.proofs.passes.raise_register.Goals as goal

pub bounds-labels-r : goal.bounds-labels-r
bounds-labels-r c = search (assignment_laws, rules)

pub row-own-requires : goal.row-own-requires
row-own-requires c = search (assignment_laws, rules)

pub reads-requires : goal.reads-requires
reads-requires c = search (assignment_laws, rules)

pub bit-requires : goal.bit-requires
bit-requires c = search (assignment_laws, rules)

pub returns-then-bit : goal.returns-then-bit
returns-then-bit c = search (assignment_laws, rules)

pub bounds-labels-r-2 : goal.bounds-labels-r-2
bounds-labels-r-2 c = search (assignment_laws, rules)

pub returns : goal.returns
returns c = search (assignment_laws, rules)
