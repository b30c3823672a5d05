use Rattle.checker_records.specs.LabelTests.{joins}
use Rattle.model.specs.Image.{design_of}
use Rattle.checker_records.proofs.LatticeRules.{joined_rule}
use Rattle.design.proofs.Laws.{labels_count}
use Rattle.model.proofs.Laws.Chains.{all_from_all}
use borrow.Author.Rules.{rules}
use Rattle.checker_records.proofs.lattice.joined.Goals as goal

pub returns : goal.returns
returns c =
    joined_rule
    (design_of c.args.image.now.bytes.now).rows
    c.args.i
    (all_from_all _ (joins (design_of c.args.image.now.bytes.now).rows c.args.i) c.all.ensures.ran (λ x b q k. search rules) (search (labels_count c.args.image.now.describes)))
