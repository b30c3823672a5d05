use Rattle.model.specs.Lattice.{label_kept}
use Rattle.model.specs.Image.{design_of}
use Rattle.design.proofs.Laws.{labels_count}
use Rattle.model.proofs.Laws.Chains.{failing_from_find}
use borrow.Author.Rules.{rules}
use Rattle.checker_records.proofs.lattice.labels.Goals as goal

pub returns : goal.returns
returns c =
    failing_from_find _ (label_kept (design_of c.args.image.now.bytes.now).rows) c.find.ensures.ran (λ x b q k. search rules) (search (labels_count c.args.image.now.describes))
