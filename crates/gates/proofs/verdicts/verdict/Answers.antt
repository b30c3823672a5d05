use Rattle.gates.proofs.VerdictRules.{directory_known, directory_refuses, wire_answers}
use borrow.Author.Rules.{rules}
use Rattle.gates.proofs.verdicts.verdict.Goals as goal

pub returns-then-not-directory_kept : goal.returns-then-not-directory_kept
returns-then-not-directory_kept c = search (directory_refuses, rules)

pub read-table-requires : goal.read-table-requires
read-table-requires c = search (directory_known, rules)

pub returns : goal.returns
returns c = let same = rw c.read-table.ensures at c.faulty.ensures in search (wire_answers, rules)
