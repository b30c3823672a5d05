use Rattle.pruning_steps.proofs.WritingRules.{operand_a_has, operand_b_has, operation_new, low_new, high_new}
use borrow.Author.Rules.{rules}
use Rattle.pruning_steps.proofs.writing.write_expression.Goals as goal
use Rattle.pruning_steps.proofs.writing.write_expression.Goals.{in_default-via-then-kind-lt2, in_default-via-else-kind-lt2+else-kind-lt12}

pub new_number-first-requires : goal.new_number-first-requires
new_number-first-requires c = search (operand_a_has, rules)

pub new_number-second-requires : goal.new_number-second-requires
new_number-second-requires c = search (operand_b_has, rules)

pub returns-in-2-to-11 : goal.returns-in-2-to-11
returns-in-2-to-11 c = search (operation_new, rules)

pub returns-in_default : goal.returns-in_default
returns-in_default c =
    elim c.in_default.branch [
      | in_default-via-then-kind-lt2 w ↦ search (low_new, rules)
      | in_default-via-else-kind-lt2+else-kind-lt12 w ↦ search (high_new, rules)
    ]
