use Rattle.model.specs.Calls.{content_kept}
use Rattle.model.specs.Image.{design_of}
use Rattle.design.proofs.Laws.{registers_count}
use Rattle.model.proofs.Laws.Chains.{failing_from_find}
use borrow.Author.Rules.{rules}
use Rattle.running.proofs.contents.too_large.Goals as goal

pub returns : goal.returns
returns c =
    failing_from_find _ (content_kept (design_of c.args.image.now.bytes.now) c.args.registers.now) c.find.ensures.ran (λ x b q k. search rules) (search (registers_count c.requires.0.describes))
