use Rattle.checker_records.proofs.RecordRules.{register_laws}
use borrow.Author.Rules.{rules}
use Rattle.checker_records.proofs.registers.register_kept.Goals as goal

pub returns-then-width-lt1 : goal.returns-then-width-lt1
returns-then-width-lt1 c = search (register_laws, rules)

pub returns-then-width-gt-WIDTH : goal.returns-then-width-gt-WIDTH
returns-then-width-gt-WIDTH c = search (register_laws, rules)

pub returns : goal.returns
returns c = search (register_laws, rules)
