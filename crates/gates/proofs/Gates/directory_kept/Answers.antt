use Rattle.gates.proofs.Laws.{too_short, directory_rule}
use borrow.Author.Rules.{rules}
use Rattle.gates.proofs.Gates.directory_kept.Goals as goal

pub returns-then-table-lt-DIRECTORY_LENGTH : goal.returns-then-table-lt-DIRECTORY_LENGTH
returns-then-table-lt-DIRECTORY_LENGTH c = too_short _ c.if-table-lt-DIRECTORY_LENGTH.true

pub returns : goal.returns
returns c = search (directory_rule, rules)
