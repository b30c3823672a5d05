use Rattle.model.proofs.Laws.Passes.{pass_laws}
use Rattle.design.proofs.Laws.{states_count}
use Rattle.machine.proofs.BindingRules.{judged_here, judged_more}
use Rattle.machine.proofs.FreeRules.{free_nowhere}
use borrow.Author.Rules.{rules}
use Rattle.machine.proofs.bindings.unbound.Goals as goal

pub returns-then-all_free : goal.returns-then-all_free
returns-then-all_free c = search (free_nowhere, rules)

pub kept-requires : goal.kept-requires
kept-requires c = search (judged_here, rules)

pub returns-then-not-kept : goal.returns-then-not-kept
returns-then-not-kept c = search (states_count, pass_laws, rules)

pub loop-s-preserved : goal.loop-s-preserved
loop-s-preserved c = search (judged_more, rules)

pub returns : goal.returns
returns c = search (states_count, pass_laws, rules)
