use Rattle.pruning_steps.proofs.ReachingRules.{find_new, find_old}
use borrow.Author.Rules.{rules}
use Rattle.pruning_steps.proofs.reaching.find.Goals as goal

pub returns-then-marks-t-eq0 : goal.returns-then-marks-t-eq0
returns-then-marks-t-eq0 c = search (find_new, find_old, rules)

pub returns-else-marks-t-eq0 : goal.returns-else-marks-t-eq0
returns-else-marks-t-eq0 c = search (find_new, find_old, rules)
