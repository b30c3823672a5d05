use Rattle.gates.proofs.VerdictRules.{input_rule}
use borrow.Author.Rules.{rules}
use Rattle.gates.proofs.verdicts.input_kept.Goals as goal

pub returns : goal.returns
returns c = search (input_rule, rules)
