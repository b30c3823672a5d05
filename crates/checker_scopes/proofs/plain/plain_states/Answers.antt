use Rattle.model.specs.Image.{design_of}
use Rattle.checker_scopes.specs.Plain.{plain_state}
use Rattle.design.proofs.Laws.{states_count}
use Rattle.model.proofs.Laws.Chains.{all_from_all}
use borrow.Author.Rules.{rules}
use Rattle.checker_scopes.proofs.plain.plain_states.Goals as goal

pub returns : goal.returns
returns c =
    all_from_all _ (plain_state (design_of c.args.image.now.bytes.now)) c.all.ensures.ran (λ x b q k. search rules) (search (states_count c.args.image.now.describes))
