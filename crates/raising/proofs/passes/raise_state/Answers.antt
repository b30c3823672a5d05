use Rattle.raising.proofs.StateRules.{state_row_inside, state_raising, state_raises}
use borrow.Author.Rules.{rules}
use Rattle.raising.proofs.passes.raise_state.Goals as goal

pub row-context-requires : goal.row-context-requires
row-context-requires c = search (state_row_inside, rules)

pub raise_command-requires : goal.raise_command-requires
raise_command-requires c = search (state_raising, rules)

pub returns : goal.returns
returns c = search (state_raises, rules)
