use Rattle.model.specs.Ports.{names_no_port}
use Rattle.model.specs.Image.{design_of}
use Rattle.design.proofs.Laws.{commands_count}
use Rattle.model.proofs.Laws.Chains.{failing_from_find}
use borrow.Author.Rules.{rules}
use Rattle.checker_nodes.proofs.ports.ports_named.Goals as goal

pub returns : goal.returns
returns c =
    failing_from_find _ (names_no_port (design_of c.args.image.now.bytes.now)) c.find.ensures.ran (λ x b q k. search rules) (search (commands_count c.requires.describes))
