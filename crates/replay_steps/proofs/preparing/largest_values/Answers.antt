use Rattle.design.proofs.ResetRules.{filled_none, filled_within}
use Rattle.replay_steps.proofs.PreparingRules.{largest_inside, largest_whole}
use borrow.Author.Rules.{rules}
use Rattle.replay_steps.proofs.preparing.largest_values.Goals as goal

pub loop-r-init : goal.loop-r-init
loop-r-init c = (search (filled_none, rules), search rules)

pub largest_value-requires : goal.largest_value-requires
largest_value-requires c = (search rules, search rules)

pub bounds-largest-r : goal.bounds-largest-r
bounds-largest-r c = search (largest_inside, rules)

pub loop-r-preserved : goal.loop-r-preserved
loop-r-preserved c = (search (filled_within, rules), search rules)

pub returns : goal.returns
returns c = search (largest_whole, rules)
