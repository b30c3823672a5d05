use Rattle.raising.proofs.StageRules.{within_refuses, within_accepts, labels_inside}
use Rattle.design.proofs.ScopeRules.{empty_scopes}
use Rattle.checker.proofs.Accepted.{structure_parameters, structure_bodies}
use borrow.Author.Rules.{rules}
use Rattle.raising.proofs.raise_from.Goals as goal

pub faults-requires : goal.faults-requires
faults-requires c = (search rules, search (structure_parameters, rules), search (empty_scopes, rules), search rules, search (structure_bodies, rules))

pub put_labels-requires : goal.put_labels-requires
put_labels-requires c = search (labels_inside, rules)

pub returns-then-is_err : goal.returns-then-is_err
returns-then-is_err c = (rw c.at.ensures (search (within_refuses, rules)), search rules)

pub returns : goal.returns
returns c = (search (within_accepts, rules), search rules)
