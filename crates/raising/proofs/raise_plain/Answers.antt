use Rattle.raising.proofs.StageRules.{area_refuses, area_passes}
use borrow.Author.Rules.{rules}
use Rattle.raising.proofs.raise_plain.Goals as goal

pub returns-then-out-image : goal.returns-then-out-image
returns-then-out-image c = search (area_refuses, rules)

pub returns : goal.returns
returns c = search (area_passes, rules)
