use Rattle.model.specs.States.{state_kept}
use Rattle.model.specs.Image.{design_of}
use Rattle.design.proofs.Laws.{states_count}
use Rattle.model.proofs.Laws.Chains.{failing_from_find}
use borrow.Author.Rules.{rules}
use Rattle.checker_records.proofs.states.states.Goals as goal

pub returns : goal.returns
returns c =
    failing_from_find _ (state_kept (design_of c.args.image.now.bytes.now)) c.find.ensures.ran (λ x b q k. search rules) (search (states_count c.args.image.now.describes))
