use Rattle.checker.proofs.StageRules.{directory_refuses, directory_passes, directory_keeps}
use borrow.Author.Rules.{rules}
use Rattle.checker.proofs.structure.Goals as goal

pub returns-then-not-directory_kept : goal.returns-then-not-directory_kept
returns-then-not-directory_kept c = search (directory_refuses, directory_passes, rules)

pub read-requires : goal.read-requires
read-requires c = search (directory_keeps, rules)

pub returns : goal.returns
returns c = rw (← c.read.ensures) (search (directory_refuses, directory_passes, rules))
