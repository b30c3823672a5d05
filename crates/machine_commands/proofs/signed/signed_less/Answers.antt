use Rattle.std.proofs.Common.{rules}
use Rattle.machine_commands.proofs.SignedRules.{below_lem}
use Rattle.machine_commands.proofs.signed.signed_less.Goals as goal

pub returns : goal.returns
returns c = search (below_lem, rules)
