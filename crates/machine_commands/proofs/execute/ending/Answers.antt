use Rattle.machine_commands.proofs.ExecuteRules.{comes_to_fall, comes_to_goto}
use Rattle.machine_commands.proofs.execute.ending.Goals as goal

pub returns-in-3 : goal.returns-in-3
returns-in-3 c = λ values. search comes_to_fall

pub returns-in_default : goal.returns-in_default
returns-in_default c = λ values. search comes_to_goto
