use Rattle.design.proofs.PartRules.{value_inside}
use Rattle.pruning_steps.proofs.StayingRules.{marks_nothing, marks_given, marks_value, marks_no_value}
use borrow.Author.Rules.{rules}
use Rattle.pruning_steps.proofs.staying.mark_value.Goals as goal

pub returns-then-not-commands-n : goal.returns-then-not-commands-n
returns-then-not-commands-n c = search (marks_nothing, rules)

pub bounds-marks-a : goal.bounds-marks-a
bounds-marks-a c = search (value_inside, rules)

pub returns-in-1 : goal.returns-in-1
returns-in-1 c = search (marks_given, marks_value, rules)

pub returns-in_default : goal.returns-in_default
returns-in_default c = search (marks_given, marks_no_value, rules)
