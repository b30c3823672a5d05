-- What says that a place is the first fault is gathered by hand: it has more premises than a search follows.
use borrow.Author.Rules.{rules}
use Rattle.checker_flow.proofs.FlowKinds.{scopes_below}
use Rattle.checker_flow.proofs.FaultRules.{state_first, none_more, some_here, faults_laws}
use Rattle.checker_flow.proofs.TableRules.{rows_kept}
use Rattle.checker_flow.proofs.ScopeRules.{scoped_rows, scoped_masks, own_above}
use Rattle.checker_flow.proofs.flow.faults.Goals as goal

pub loop-s-init : goal.loop-s-init
loop-s-init c = (search (faults_laws, rules), search (rows_kept, rules))

pub inherited-own_from-requires : goal.inherited-own_from-requires
inherited-own_from-requires c = search (scopes_below, rules)

pub state_flow-place-requires : goal.state_flow-place-requires
state_flow-place-requires c = (search rules, search rules, search rules, search rules, scoped_masks _ c.scope_masks.ensures (search rules) c.requires.0 (search rules) (search rules), search rules, search (own_above, rules))

pub returns-then-place-lt-NOWHERE : goal.returns-then-place-lt-NOWHERE
returns-then-place-lt-NOWHERE c =
    let inv = c.loop-s.invariant in
    let state = c.loop-s-test.true in
    let table = scoped_masks _ c.scope_masks.ensures inv.1 c.requires.0 c.requires.1 state in
    let first = state_first _ _ c.state_flow-place.ensures table c.requires.0 c.requires.1 c.requires.3 c.requires.4 state in
    some_here c.requires.0 inv.0 first state c.if-place-lt-NOWHERE.true c.answer.ensures

pub loop-s-preserved : goal.loop-s-preserved
loop-s-preserved c =
    let inv = c.loop-s.invariant in
    let state = c.loop-s-test.true in
    let table = scoped_masks _ c.scope_masks.ensures inv.1 c.requires.0 c.requires.1 state in
    let first = state_first _ _ c.state_flow-place.ensures table c.requires.0 c.requires.1 c.requires.3 c.requires.4 state in
    (none_more c.requires.0 inv.0 _ first c.if-place-lt-NOWHERE.false, scoped_rows _ c.scope_masks.ensures inv.1 c.requires.0 c.requires.1 state)

pub returns : goal.returns
returns c = search (faults_laws, rules)
