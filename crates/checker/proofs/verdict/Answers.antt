use Rattle.checker.proofs.Accepted.{structured_directory, structured_keeps, structure_known, structure_parameters, structure_bodies}
use Rattle.checker.proofs.StageRules.{structure_refuses, structure_passes}
use borrow.Author.Rules.{rules}
use Rattle.checker.proofs.verdict.Goals as goal

pub returns-in_err-structure : goal.returns-in_err-structure
returns-in_err-structure c = let was = c.in_err-structure.was in search (structure_refuses, rules)

pub read-requires : goal.read-requires
read-requires c = let was = c.in_ok-structure.was in search (structured_directory, rules)

pub flow_faults-requires : goal.flow_faults-requires
flow_faults-requires c =
    let was = c.in_ok-structure.was in
    let describes = rw c.read.ensures at c.read.result.describes in
    rw
    c.read.ensures
    (search (structured_keeps, structure_known, rules), search (structured_keeps, structure_parameters), search (structured_keeps, structure_bodies))

pub returns : goal.returns
returns c = let was = c.in_ok-structure.was in let same = rw c.read.ensures at c.flow_faults.ensures in search (structure_passes, rules)
