use Rattle.machine_commands.proofs.EvaluateRules.{name_laws}
use Rattle.std.proofs.Common.{rules}
use Rattle.machine_commands.proofs.evaluate.named.Goals as goal

pub returns-then-r-lt-PARAMETER_REGISTER : goal.returns-then-r-lt-PARAMETER_REGISTER
returns-then-r-lt-PARAMETER_REGISTER c = search (name_laws, rules)

pub returns-in-0 : goal.returns-in-0
returns-in-0 c = search (name_laws, rules)

pub returns-in-1 : goal.returns-in-1
returns-in-1 c = search (name_laws, rules)

pub returns-in_default : goal.returns-in_default
returns-in_default c = search (name_laws, rules)
