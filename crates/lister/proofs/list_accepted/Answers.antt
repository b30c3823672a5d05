use lib.Seq.{length-take-le}
use Rattle.lister.proofs.Buffers.{part_length, registers_fit, targets_fit}
use Rattle.lister.proofs.PieceRules.{header_handed, ran_handed}
use borrow.Author.Rules.{rules}
use Rattle.lister.proofs.list_accepted.Goals as goal

pub returns-then-not-print_header : goal.returns-then-not-print_header
returns-then-not-print_header c = search (header_handed, rules)

pub slice_bounds-registers-end : goal.slice_bounds-registers-end
slice_bounds-registers-end c = search (registers_fit, rules)

pub slice_bounds-list_on-end : goal.slice_bounds-list_on-end
slice_bounds-list_on-end c = part_length _ _ (search (registers_fit, rules))

pub slice_bounds-targets-end : goal.slice_bounds-targets-end
slice_bounds-targets-end c = search (targets_fit, rules)

pub slice_bounds-list_on-end-2 : goal.slice_bounds-list_on-end-2
slice_bounds-list_on-end-2 c = part_length _ _ (search (targets_fit, rules))

pub list_on-requires : goal.list_on-requires
list_on-requires c = (search rules, length-take-le _ _ (search (registers_fit, rules)), length-take-le _ _ (search (targets_fit, rules)), rw c.read-image.ensures (search rules))

pub returns : goal.returns
returns c = search (ran_handed, rules)
