use Rattle.checker_records.proofs.ParameterRules.{second_pair_rule}
use borrow.Author.Rules.{rules}
use Rattle.checker_records.proofs.parameters.second_pair_kept.Goals as goal

pub returns : goal.returns
returns c = search (second_pair_rule, rules)
