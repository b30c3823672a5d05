use Rattle.filing_steps.proofs.OrderingRules.{put_one}
use borrow.Author.Rules.{rules}
use Rattle.filing_steps.proofs.ordering.place.Goals as goal

pub returns : goal.returns
returns c = search (put_one, rules)
