use Rattle.checker_records.proofs.ParameterRules.{pair_laws}
use borrow.Author.Rules.{rules}
use Rattle.checker_records.proofs.parameters.pair_kept.Goals as goal

pub returns-then-not-used : goal.returns-then-not-used
returns-then-not-used c = search (pair_laws, rules)

pub returns-then-image-lower : goal.returns-then-image-lower
returns-then-image-lower c = search (pair_laws, rules)

pub returns-then-image-upper : goal.returns-then-image-upper
returns-then-image-upper c = search (pair_laws, rules)

pub flows-requires : goal.flows-requires
flows-requires c = search (pair_laws, rules)

pub returns : goal.returns
returns c = search (pair_laws, rules)
