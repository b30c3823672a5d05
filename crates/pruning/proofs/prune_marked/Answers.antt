use Rattle.design.proofs.Laws.{commands_most, expressions_most}
use Rattle.design.proofs.ResetRules.{states_few}
use Rattle.pruning.proofs.WritingRules.{states_small, commands_small, expressions_small, front_short}
use Rattle.pruning.proofs.StageRules.{all_numbered, states_fit, commands_fit, expressions_fit, resized_result}
use borrow.Author.Rules.{rules}
use Rattle.pruning.proofs.prune_marked.Goals as goal

pub close_up-states-requires : goal.close_up-states-requires
close_up-states-requires c = search (states_few, states_small, rules)

pub close_up-commands-requires : goal.close_up-commands-requires
close_up-commands-requires c = search (commands_most, commands_small, rules)

pub close_up-expressions-requires : goal.close_up-expressions-requires
close_up-expressions-requires c = search (expressions_most, expressions_small, rules)

pub resized-result-requires : goal.resized-result-requires
resized-result-requires c = (search (front_short, rules), search (states_fit, rules), search (commands_fit, rules), search (expressions_fit, rules))

pub prune_numbered-requires : goal.prune_numbered-requires
prune_numbered-requires c = (search rules, search (resized_result, rules), search rules, search (all_numbered, rules))
