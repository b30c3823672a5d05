use borrow.Author.Rules.{rules}
use Rattle.design.proofs.FieldRules.{sequence_a_falls, sequence_b_falls, branch_b_falls, branch_c_falls}
use Rattle.checker_bodies.proofs.ShapeRules.{judge_laws, sequence_a, sequence_b, branch_b, branch_c}
use Rattle.checker_bodies.proofs.shape.+judge.Goals as goal

pub judge-p-requires : goal.judge-p-requires
judge-p-requires t c = (search sequence_a_falls, search sequence_a)

pub judge-q-requires : goal.judge-q-requires
judge-q-requires t c = (search sequence_b_falls, search sequence_b)

pub sequenced-requires : goal.sequenced-requires
sequenced-requires t c = search (judge_laws, rules)

pub judgement-requires : goal.judgement-requires
judgement-requires t c = search (judge_laws, rules)

pub sibling_or_self-kept-requires : goal.sibling_or_self-kept-requires
sibling_or_self-kept-requires t c = search (judge_laws, rules)

pub judgement-requires-in-4 : goal.judgement-requires-in-4
judgement-requires-in-4 t c = search (judge_laws, rules)

pub judge-p-requires-in-5 : goal.judge-p-requires-in-5
judge-p-requires-in-5 t c = (search branch_b_falls, search branch_b)

pub judge-q-requires-in-5 : goal.judge-q-requires-in-5
judge-q-requires-in-5 t c = (search branch_c_falls, search branch_c)

pub branched-requires : goal.branched-requires
branched-requires t c = search (judge_laws, rules)

pub returns-in-2 : goal.returns-in-2
returns-in-2 t c = search (judge_laws, rules)

pub returns-in-3 : goal.returns-in-3
returns-in-3 t c = search (judge_laws, rules)

pub returns-in-4 : goal.returns-in-4
returns-in-4 t c = search (judge_laws, rules)

pub returns-in-5 : goal.returns-in-5
returns-in-5 t c = search (judge_laws, rules)

pub returns-in_default : goal.returns-in_default
returns-in_default t c = search (judge_laws, rules)
