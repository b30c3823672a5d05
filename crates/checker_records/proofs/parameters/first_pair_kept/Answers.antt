use Rattle.checker_records.proofs.ParameterRules.{first_pair_rule}
use borrow.Author.Rules.{rules}
use Rattle.checker_records.proofs.parameters.first_pair_kept.Goals as goal

pub returns : goal.returns
returns c = search (first_pair_rule, rules)
