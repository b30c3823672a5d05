use Rattle.model.proofs.Laws.Passes.{passed_none}
use Rattle.design.proofs.ScopeRules.{scopes_none}
use Rattle.checker_records.proofs.ParameterRules.{entering_laws, passed_entered, scopes_entered, entries_more}
use borrow.Author.Rules.{rules}
use Rattle.checker_records.proofs.parameters.parameters.Goals as goal

pub loop-s-init : goal.loop-s-init
loop-s-init c = search (passed_none, scopes_none, entering_laws, rules)

pub returns-then-not-enter : goal.returns-then-not-enter
returns-then-not-enter c = search (passed_none, scopes_none, entering_laws, rules)

pub loop-s-preserved : goal.loop-s-preserved
loop-s-preserved c = (search (passed_entered, rules), search (scopes_entered, rules), search (entries_more, rules), search rules, search rules)

pub returns : goal.returns
returns c = search (passed_none, scopes_none, entering_laws, rules)
