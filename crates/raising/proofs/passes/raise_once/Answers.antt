use Rattle.design.proofs.Laws.{states_count}
use Rattle.raising.proofs.StateRules.{once_none, once_more, once_all, raising_so}
use borrow.Author.Rules.{rules}
use Rattle.raising.proofs.passes.raise_once.Goals as goal

pub loop-s-init : goal.loop-s-init
loop-s-init c = search (once_none, rules)

pub raise_state-more-requires : goal.raise_state-more-requires
raise_state-more-requires c = search (raising_so, rules)

pub loop-s-preserved : goal.loop-s-preserved
loop-s-preserved c = search (once_more, rules)

pub returns : goal.returns
returns c = search (once_all, states_count, rules)
