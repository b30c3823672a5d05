use Rattle.design.proofs.FieldRules.{sequence_a_falls, sequence_b_falls, branch_b_falls, branch_c_falls}
use Rattle.checker_scopes.proofs.ScopeRules.{scoped_laws, scoped_branch, sequence_a, sequence_b, branch_b, branch_c}
use borrow.Author.Rules.{rules}
use Rattle.checker_scopes.proofs.scope.+scoped.Goals as goal

pub reads-read-requires : goal.reads-read-requires
reads-read-requires t c = search (scoped_laws, rules)

pub scoped-p-requires : goal.scoped-p-requires
scoped-p-requires t c = (search sequence_a_falls, search (sequence_a, rules))

pub scoped-q-requires : goal.scoped-q-requires
scoped-q-requires t c = (search sequence_b_falls, search (sequence_b, rules))

pub arguments_kept-kept-requires : goal.arguments_kept-kept-requires
arguments_kept-kept-requires t c = search (scoped_laws, rules)

pub reads-read-requires-in-5 : goal.reads-read-requires-in-5
reads-read-requires-in-5 t c = search (scoped_laws, rules)

pub scoped-p-requires-in-5 : goal.scoped-p-requires-in-5
scoped-p-requires-in-5 t c = (search branch_b_falls, search (branch_b, rules))

pub scoped-q-requires-in-5 : goal.scoped-q-requires-in-5
scoped-q-requires-in-5 t c = (search branch_c_falls, search (branch_c, rules))

pub returns-in-1 : goal.returns-in-1
returns-in-1 t c = search (scoped_laws, rules)

pub returns-in-2 : goal.returns-in-2
returns-in-2 t c = search (scoped_laws, rules)

pub returns-in-4 : goal.returns-in-4
returns-in-4 t c = search (scoped_laws, rules)

pub returns-in-5 : goal.returns-in-5
returns-in-5 t c = search (scoped_branch c.requires.0, c.requires.1)

pub returns-in_default : goal.returns-in_default
returns-in_default t c = search (scoped_laws, rules)
