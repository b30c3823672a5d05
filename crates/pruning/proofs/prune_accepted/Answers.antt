use Rattle.pruning.proofs.StageRules.{accepted_pruning, all_marked}
use borrow.Author.Rules.{rules}
use Rattle.pruning.proofs.prune_accepted.Goals as goal

pub reached_states-requires : goal.reached_states-requires
reached_states-requires c = search (accepted_pruning, rules)

pub staying_commands-requires : goal.staying_commands-requires
staying_commands-requires c = search (accepted_pruning, rules)

pub staying_expressions-requires : goal.staying_expressions-requires
staying_expressions-requires c = search (accepted_pruning, rules)

pub prune_marked-requires : goal.prune_marked-requires
prune_marked-requires c = search (accepted_pruning, all_marked, rules)

pub returns : goal.returns
returns c = rw (← c.read-image.ensures) (search rules)
