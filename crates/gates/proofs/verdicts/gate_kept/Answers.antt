use Rattle.gates.proofs.VerdictRules.{gate_rule}
use borrow.Author.Rules.{rules}
use Rattle.gates.proofs.verdicts.gate_kept.Goals as goal

pub returns : goal.returns
returns c = search (gate_rule, rules)
