use Rattle.pruning_steps.proofs.StayingRules.{both_marked}
use borrow.Author.Rules.{rules}
use Rattle.pruning_steps.proofs.staying.mark_both.Goals as goal

pub returns : goal.returns
returns c = search (both_marked, rules)
