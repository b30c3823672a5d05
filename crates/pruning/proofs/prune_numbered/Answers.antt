use Rattle.pruning.proofs.WritingRules.{expressions_short, expressions_near}
use Rattle.pruning.proofs.StageRules.{room_is, area_refuses, area_passes}
use borrow.Author.Rules.{rules}
use Rattle.pruning.proofs.prune_numbered.Goals as goal

pub nodes_end-length-requires : goal.nodes_end-length-requires
nodes_end-length-requires c = (search (expressions_near, rules), search (expressions_short, rules))

pub returns-then-out-length : goal.returns-then-out-length
returns-then-out-length c = rw c.at.ensures (search (area_refuses, rules))

pub write-requires : goal.write-requires
write-requires c = (search rules, search rules, search rules, search rules, search (room_is, rules))

pub returns : goal.returns
returns c = search (area_refuses, area_passes, rules)
