use Rattle.filing.proofs.StageRules.{accepts_keeps, first_refused, second_refused, second_comes, first_comes}
use borrow.Author.Rules.{rules}
use Rattle.filing.proofs.which_earlier.Goals as goal

pub returns-then-not-accepts : goal.returns-then-not-accepts
returns-then-not-accepts c = search (first_refused, second_refused, rules)

pub returns-then-not-accepts-2 : goal.returns-then-not-accepts-2
returns-then-not-accepts-2 c = search (first_refused, second_refused, rules)

pub second_earlier-requires : goal.second_earlier-requires
second_earlier-requires c = search (accepts_keeps, rules)

pub returns-then-second_earlier : goal.returns-then-second_earlier
returns-then-second_earlier c = search (second_comes, first_comes, accepts_keeps, rules)

pub returns : goal.returns
returns c = search (second_comes, first_comes, accepts_keeps, rules)
