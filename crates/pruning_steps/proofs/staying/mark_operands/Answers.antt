use Rattle.design.proofs.PartRules.{expression_part_laws}
use Rattle.pruning_steps.proofs.StayingRules.{marks_nothing, marks_given, marks_operation, marks_low, marks_high}
use borrow.Author.Rules.{rules}
use Rattle.pruning_steps.proofs.staying.mark_operands.Goals as goal

pub returns-then-not-marks-n : goal.returns-then-not-marks-n
returns-then-not-marks-n c = search (marks_nothing, rules)

pub mark_both-requires : goal.mark_both-requires
mark_both-requires c = search (expression_part_laws, rules)

pub returns-then-kind-lt2 : goal.returns-then-kind-lt2
returns-then-kind-lt2 c = search (marks_given, marks_low, rules)

pub returns-in-2-to-11 : goal.returns-in-2-to-11
returns-in-2-to-11 c = search (marks_given, marks_operation, rules)

pub returns-else-kind-lt12 : goal.returns-else-kind-lt12
returns-else-kind-lt12 c = search (marks_given, marks_high, rules)
