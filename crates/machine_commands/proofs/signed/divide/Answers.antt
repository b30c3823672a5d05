use Rattle.std.proofs.Common.{rules}
use Rattle.model.proofs.Laws.Signed.{divided_by_zero}
use Rattle.machine_commands.proofs.SignedRules.{divided_lem}
use Rattle.machine_commands.proofs.signed.divide.Goals as goal

pub returns-then-y-eq0 : goal.returns-then-y-eq0
returns-then-y-eq0 c = search (divided_by_zero, rules)

pub returns : goal.returns
returns c = search (divided_lem, rules)
