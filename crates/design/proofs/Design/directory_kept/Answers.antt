use Rattle.design.proofs.Laws.{too_short, directory_rule}
use borrow.Author.Rules.{rules}
use Rattle.design.proofs.Design.directory_kept.Goals as goal

pub returns-then-image-lt-DIRECTORY_LENGTH : goal.returns-then-image-lt-DIRECTORY_LENGTH
returns-then-image-lt-DIRECTORY_LENGTH c = too_short _ c.if-image-lt-DIRECTORY_LENGTH.true

pub returns : goal.returns
returns c = search (directory_rule, rules)
