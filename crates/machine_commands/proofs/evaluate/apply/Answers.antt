use Rattle.machine_commands.proofs.EvaluateRules.{apply_laws}
use Rattle.std.proofs.Common.{rules}
use Rattle.machine_commands.proofs.evaluate.apply.Goals as goal

pub returns-in-2 : goal.returns-in-2
returns-in-2 c = search (apply_laws, rules)

pub returns-in-3 : goal.returns-in-3
returns-in-3 c = search (apply_laws, rules)

pub returns-in-4 : goal.returns-in-4
returns-in-4 c = search (apply_laws, rules)

pub returns-in-5 : goal.returns-in-5
returns-in-5 c = search (apply_laws, rules)

pub returns-in-6 : goal.returns-in-6
returns-in-6 c = search (apply_laws, rules)

pub returns-in-7 : goal.returns-in-7
returns-in-7 c = search (apply_laws, rules)

pub returns-in-8 : goal.returns-in-8
returns-in-8 c = search (apply_laws, rules)

pub returns-in-9 : goal.returns-in-9
returns-in-9 c = search (apply_laws, rules)

pub returns-in-10 : goal.returns-in-10
returns-in-10 c = search (apply_laws, rules)

pub returns-in_default : goal.returns-in_default
returns-in_default c = search (apply_laws, rules)
