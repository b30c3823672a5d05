use Rattle.pruning_steps.specs.Reaching.{waits}
use Rattle.model.proofs.Laws.Chains.{lowest_from_find}
use borrow.Author.Rules.{rules}
use borrow.Author.Tests.{tests}
use Rattle.pruning_steps.proofs.reaching.waiting.Goals as goal

pub returns : goal.returns
returns c =
    lowest_from_find _ (waits c.args.marks.now) c.find.ensures.ran (λ x b q k. search (rules, tests)) (search rules)
