use mathlib.Core.Path.{sym}
use lib.Seq.{length-take-le}
use borrow.Author.Rules.{rules}
use Rattle.design.proofs.Laws.{registers_most}
use Rattle.raising.proofs.raise_sized.Goals as goal

pub slice_bounds-table-end : goal.slice_bounds-table-end
slice_bounds-table-end c = search (registers_most, rules)

pub slice_bounds-raise_within-end : goal.slice_bounds-raise_within-end
slice_bounds-raise_within-end c = sym (length-take-le _ _ (search (registers_most, rules)))

pub raise_within-requires : goal.raise_within-requires
raise_within-requires c = (search rules, search rules, length-take-le _ _ (search (registers_most, rules)), search rules)
