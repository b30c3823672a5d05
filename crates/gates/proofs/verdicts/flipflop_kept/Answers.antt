use Rattle.gates.proofs.VerdictRules.{flipflop_rule}
use borrow.Author.Rules.{rules}
use Rattle.gates.proofs.verdicts.flipflop_kept.Goals as goal

pub returns : goal.returns
returns c = search (flipflop_rule, rules)
