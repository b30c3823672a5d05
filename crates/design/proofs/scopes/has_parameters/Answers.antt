use Rattle.model.specs.Image.{design_of}
use Rattle.model.proofs.Laws.Chains.{some_from_any}
use Rattle.design.specs.Scopes.{has_own}
use Rattle.design.proofs.ScopeRules.{some_own}
use borrow.Author.Rules.{rules}
use Rattle.design.proofs.scopes.has_parameters.Goals as goal

pub returns : goal.returns
returns c = some_own c.args.image.now.describes (some_from_any _ (has_own (design_of c.args.image.now.bytes.now)) c.any.ensures.ran (λ x b q k. search rules) (search rules))
