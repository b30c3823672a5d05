use Rattle.design.proofs.PartRules.{sequence_a_inside, sequence_b_inside, branch_b_inside, branch_c_inside}
use Rattle.pruning_steps.proofs.StayingRules.{marks_nothing, marks_given, marks_sequence, marks_branch, marks_no_part}
use borrow.Author.Rules.{rules}
use Rattle.pruning_steps.proofs.staying.mark_parts.Goals as goal

pub returns-then-not-marks-n : goal.returns-then-not-marks-n
returns-then-not-marks-n c = search (marks_nothing, rules)

pub mark_both-requires : goal.mark_both-requires
mark_both-requires c = (search sequence_a_inside, search sequence_b_inside)

pub mark_both-requires-in-5 : goal.mark_both-requires-in-5
mark_both-requires-in-5 c = (search branch_b_inside, search branch_c_inside)

pub returns-in-2 : goal.returns-in-2
returns-in-2 c = search (marks_given, marks_sequence, rules)

pub returns-in-5 : goal.returns-in-5
returns-in-5 c = search (marks_given, marks_branch, rules)

pub returns-in_default : goal.returns-in_default
returns-in_default c = search (marks_given, marks_no_part, rules)
