use Rattle.design.proofs.PartRules.{body_inside}
use Rattle.pruning_steps.proofs.StayingRules.{marks_nothing, marks_given, marks_body}
use borrow.Author.Rules.{rules}
use Rattle.pruning_steps.proofs.staying.mark_body.Goals as goal

pub returns-then-not-reached-s : goal.returns-then-not-reached-s
returns-then-not-reached-s c = search (marks_nothing, rules)

pub bounds-marks-command : goal.bounds-marks-command
bounds-marks-command c = search (body_inside, rules)

pub returns : goal.returns
returns c = search (marks_given, marks_body, rules)
