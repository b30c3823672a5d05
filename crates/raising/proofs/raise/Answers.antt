use Rattle.checker.proofs.Accepted.{structured_is}
use Rattle.raising.proofs.StageRules.{structure_refuses, structure_passes}
use borrow.Author.Rules.{rules}
use Rattle.raising.proofs.raise.Goals as goal

pub raise_structured-requires : goal.raise_structured-requires
raise_structured-requires c = let was = c.in_ok-structure.was in search (structured_is, rules)

pub returns-in_err-structure : goal.returns-in_err-structure
returns-in_err-structure c = let was = c.in_err-structure.was in search (structure_refuses, rules)

pub returns : goal.returns
returns c = let was = c.in_ok-structure.was in search (structure_passes, rules)
