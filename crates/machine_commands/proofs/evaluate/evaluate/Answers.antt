use Rattle.std.proofs.Common.{rules}
use Rattle.machine_commands.proofs.EvaluateRules.{leaf_low, leaf_high}
use Rattle.machine_commands.proofs.evaluate.evaluate.Goals as goal
use Rattle.machine_commands.proofs.evaluate.evaluate.Goals.{in_default-via-then-expression_kind-lt2, in_default-via-else-expression_kind-lt2+else-this-lt12}

pub leaf_value-requires : goal.leaf_value-requires
leaf_value-requires c = (
  search rules,
  elim c.in_default.branch [
    | in_default-via-then-expression_kind-lt2 w ↦ search (leaf_low, rules)
    | in_default-via-else-expression_kind-lt2+else-this-lt12 w ↦ search (leaf_high, rules)
  ],
)
