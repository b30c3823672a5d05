use Rattle.std.proofs.Common.{rules}
use Rattle.machine_commands.proofs.EvaluateRules.{leaf_laws}
use Rattle.machine_commands.proofs.evaluate.leaf_value.Goals as goal

pub word-requires : goal.word-requires
word-requires c = search (leaf_laws, rules)

pub returns-in-1 : goal.returns-in-1
returns-in-1 c = search (leaf_laws, rules)

pub returns-in_default : goal.returns-in_default
returns-in_default c = search (leaf_laws, rules)
