use Rattle.std.proofs.Common.{rules}
use Rattle.machine_commands.proofs.SignedRules.{shifted_lem}
use Rattle.machine_commands.proofs.signed.shift_right.Goals as goal

pub returns : goal.returns
returns c = search (shifted_lem, rules)
