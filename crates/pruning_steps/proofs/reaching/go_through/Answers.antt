use Rattle.pruning_steps.proofs.ReachingRules.{default_inside, body_finding, goes_through}
use borrow.Author.Rules.{rules}
use Rattle.pruning_steps.proofs.reaching.go_through.Goals as goal

pub bounds-defaults-s : goal.bounds-defaults-s
bounds-defaults-s c = search (default_inside, rules)

pub find_successors-requires : goal.find_successors-requires
find_successors-requires c = search (body_finding, rules)

pub returns : goal.returns
returns c = search (goes_through, rules)
