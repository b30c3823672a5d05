use Rattle.model.specs.Image.{design_of}
use Rattle.checker_scopes.specs.Plain.{plain_expression}
use Rattle.design.proofs.Laws.{expressions_count}
use Rattle.model.proofs.Laws.Chains.{all_from_all}
use borrow.Author.Rules.{rules}
use Rattle.checker_scopes.proofs.plain.plain_expressions.Goals as goal

pub returns : goal.returns
returns c =
    all_from_all _ (plain_expression (design_of c.args.image.now.bytes.now)) c.all.ensures.ran (λ x b q k. search rules) (search (expressions_count c.requires.describes))
