use Rattle.checker_nodes.proofs.CountRules.{nodes_fresh}
use borrow.Author.Rules.{rules}
use Rattle.checker.proofs.from_sized.Goals as goal

pub from_tables-requires : goal.from_tables-requires
from_tables-requires g c = (search rules, search rules, search rules, nodes_fresh _ _ (search rules) (search rules))

pub whole_as_slice-from_tables : goal.whole_as_slice-from_tables
whole_as_slice-from_tables g c = let most = c.requires in search rules

pub whole_as_slice-from_tables-2 : goal.whole_as_slice-from_tables-2
whole_as_slice-from_tables-2 g c = let most = c.requires in search rules

pub whole_as_slice-from_tables-3 : goal.whole_as_slice-from_tables-3
whole_as_slice-from_tables-3 g c = let most = c.requires in search rules

pub whole_as_slice-from_tables-4 : goal.whole_as_slice-from_tables-4
whole_as_slice-from_tables-4 g c = let most = c.requires in search rules
