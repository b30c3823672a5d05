use Rattle.design.proofs.ScopeRules.{scopes_loop, scopes_next, scope_put, scopes_written}
use borrow.Author.Rules.{rules}
use Rattle.design.proofs.scopes.scopes.Goals as goal

pub loop-s-init : goal.loop-s-init
loop-s-init c = search (scopes_loop, rules)

pub put_scope-requires : goal.put_scope-requires
put_scope-requires c = search (scopes_loop, rules)

pub loop-s-preserved : goal.loop-s-preserved
loop-s-preserved c = (search (scopes_next, scope_put, rules), search (scopes_written, rules), search rules, search rules)

pub shape_of-scopes : goal.shape_of-scopes
shape_of-scopes c = search (scopes_loop, rules)

pub returns : goal.returns
returns c = search (scopes_loop, rules)
