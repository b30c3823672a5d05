use borrow.Author.Rules.{rules}
use Rattle.design.proofs.FieldRules.{sequence_a_falls, sequence_b_falls, branch_b_falls, branch_c_falls}
use Rattle.pruning_steps.proofs.ReachingRules.{finding_laws, first_finding, second_finding, then_finding, else_finding}
use Rattle.pruning_steps.proofs.reaching.+find_successors.Goals as goal

pub find_successors-requires : goal.find_successors-requires
find_successors-requires t c = (search sequence_a_falls, search first_finding)

pub find_successors-requires-in-2 : goal.find_successors-requires-in-2
find_successors-requires-in-2 t c = (search sequence_b_falls, search second_finding)

pub find-requires-in-4 : goal.find-requires-in-4
find-requires-in-4 t c = search (finding_laws, rules)

pub find_successors-requires-in-5 : goal.find_successors-requires-in-5
find_successors-requires-in-5 t c = (search branch_b_falls, search then_finding)

pub find_successors-requires-in-5-2 : goal.find_successors-requires-in-5-2
find_successors-requires-in-5-2 t c = (search branch_c_falls, search else_finding)

pub returns-in-2 : goal.returns-in-2
returns-in-2 t c = search (finding_laws, rules)

pub returns-in-3 : goal.returns-in-3
returns-in-3 t c = search (finding_laws, rules)

pub returns-in-4 : goal.returns-in-4
returns-in-4 t c = search (finding_laws, rules)

pub returns-in-5 : goal.returns-in-5
returns-in-5 t c = search (finding_laws, rules)

pub returns-in_default : goal.returns-in_default
returns-in_default t c = search (finding_laws, rules)
