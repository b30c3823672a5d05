use Rattle.std.proofs.Common.{rules}
use Rattle.machine_commands.proofs.EvaluateRules.{operation_kind, leaf_low, part_a_high, part_b_high, operation_low, operation_high, part_a_inside, part_a_evaluating, part_a_falls, part_b_inside, part_b_evaluating, part_b_falls, evaluates_operation}
use Rattle.machine_commands.proofs.evaluate.+operation_value.Goals as goal
use Rattle.machine_commands.proofs.evaluate.+operation_value.Goals.{in-2-to-11, in_default, in-2-to-11-expression_kind, in_default-expression_kind, in_default-via-then-expression_kind-lt2, in_default-via-else-expression_kind-lt2+else-this-lt12, in_default-expression_kind-via-then-expression_kind-lt2-2, in_default-expression_kind-via-else-expression_kind-lt2-2+else-this-lt12-2}

pub expression_kind-requires : goal.expression_kind-requires
expression_kind-requires t c = search part_a_inside

pub operation_value-x-requires : goal.operation_value-x-requires
operation_value-x-requires t c = (search part_a_falls, (search part_a_evaluating, search operation_kind))

pub leaf_value-x-requires : goal.leaf_value-x-requires
leaf_value-x-requires t c = (
  search part_a_evaluating,
  elim c.in_default.branch [
    | in_default-via-then-expression_kind-lt2 w ↦ search (leaf_low, rules)
    | in_default-via-else-expression_kind-lt2+else-this-lt12 w ↦ search (part_a_high, rules)
  ],
)

pub expression_kind-requires-2 : goal.expression_kind-requires-2
expression_kind-requires-2 t c = search part_b_inside

pub operation_value-y-requires : goal.operation_value-y-requires
operation_value-y-requires t c = (search part_b_falls, (search part_b_evaluating, search operation_kind))

pub leaf_value-y-requires : goal.leaf_value-y-requires
leaf_value-y-requires t c = (
  search part_b_evaluating,
  elim c.in_default-expression_kind.branch [
    | in_default-expression_kind-via-then-expression_kind-lt2-2 w ↦ search (leaf_low, rules)
    | in_default-expression_kind-via-else-expression_kind-lt2-2+else-this-lt12-2 w ↦ search (part_b_high, rules)
  ],
)

pub apply-requires : goal.apply-requires
apply-requires t c = (search operation_low, search operation_high)

pub returns : goal.returns
returns t c =
    elim c.if-expression_kind-lt2.branch [
      | in-2-to-11 w ↦ elim c.if-expression_kind-lt2-2.branch [ in-2-to-11-expression_kind u ↦ search evaluates_operation | in_default-expression_kind u ↦ search evaluates_operation ]
      | in_default w ↦ elim c.if-expression_kind-lt2-2.branch [ in-2-to-11-expression_kind u ↦ search evaluates_operation | in_default-expression_kind u ↦ search evaluates_operation ]
    ]
