use Rattle.checker_records.specs.LabelTests.{least_in}
use lib.Bits.{bit_and}
use Rattle.model.specs.Image.{design_of}
use Rattle.checker_records.proofs.LatticeRules.{joins_rule}
use Rattle.design.proofs.Laws.{labels_count}
use Rattle.model.proofs.Laws.Chains.{some_from_any}
use borrow.Author.Rules.{rules}
use Rattle.checker_records.proofs.lattice.joins.Goals as goal

pub returns : goal.returns
returns c =
    joins_rule
    (design_of c.args.image.now.bytes.now).rows
    c.args.i
    c.args.j
    c.mask.ensures
    c.row.ensures
    (some_from_any _ (least_in (design_of c.args.image.now.bytes.now).rows (bit_and c.mask.result c.row.result)) c.any.ensures.ran (λ x b q k. search rules) (search (labels_count c.args.image.now.describes)))
