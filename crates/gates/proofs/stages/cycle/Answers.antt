use Rattle.gates.proofs.StageRules.{lengths_wrong, lent_wrong, lends_right, cycle_leaves}
use borrow.Author.Rules.{rules}
use Rattle.gates.proofs.stages.cycle.Goals as goal

pub returns-then-not-lengths_kept : goal.returns-then-not-lengths_kept
returns-then-not-lengths_kept c = search (lengths_wrong, rules)

pub returns-in_err-refused_at : goal.returns-in_err-refused_at
returns-in_err-refused_at c = let was = c.in_err-refused_at.was in search (lent_wrong, rules)

pub cycle-requires : goal.cycle-requires
cycle-requires c = let was = c.in_ok-refused_at.was in search (lends_right, rules)

pub returns : goal.returns
returns c = let was = c.in_ok-refused_at.was in search (cycle_leaves, rules)
