use Rattle.checker_records.specs.LabelTests.{distinct}
use Rattle.model.specs.Image.{design_of}
use Rattle.checker_records.proofs.LatticeRules.{antisymmetric_rule}
use Rattle.design.proofs.Laws.{labels_count}
use Rattle.model.proofs.Laws.Chains.{all_from_all}
use borrow.Author.Rules.{rules}
use Rattle.checker_records.proofs.lattice.antisymmetric.Goals as goal

pub returns : goal.returns
returns c =
    antisymmetric_rule
    (design_of c.args.image.now.bytes.now).rows
    c.args.i
    (all_from_all _ (distinct (design_of c.args.image.now.bytes.now).rows c.args.i) c.all.ensures.ran (λ x b q k. search rules) (search (labels_count c.args.image.now.describes)))
