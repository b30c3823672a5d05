-- What says that a place is the first fault is gathered by hand: it has more premises than a search follows.
use borrow.Author.Rules.{rules}
use Rattle.checker_flow.proofs.FaultRules.{state_first, none_more, some_here, faults_laws}
use Rattle.checker_flow.proofs.TableRules.{rows_kept, plain_masks}
use Rattle.checker_flow.proofs.ScopeRules.{own_plain}
use Rattle.checker_flow.proofs.flow.plain_faults.Goals as goal

pub loop-s-init : goal.loop-s-init
loop-s-init c = (search (faults_laws, rules), search (rows_kept, rules))

pub state_flow-first-requires : goal.state_flow-first-requires
state_flow-first-requires c = search (plain_masks, own_plain, rules)

pub returns-then-first-lt-NOWHERE : goal.returns-then-first-lt-NOWHERE
returns-then-first-lt-NOWHERE c =
    let inv = c.loop-s.invariant in
    let state = c.loop-s-test.true in
    let table = plain_masks c.requires.0 inv.1 c.requires.1 c.requires.2 state in
    let first = state_first _ _ c.state_flow-first.ensures table c.requires.0 c.requires.1 c.requires.3 c.requires.4 state in
    some_here c.requires.0 inv.0 first state c.if-first-lt-NOWHERE.true c.answer.ensures

pub loop-s-preserved : goal.loop-s-preserved
loop-s-preserved c =
    let inv = c.loop-s.invariant in
    let state = c.loop-s-test.true in
    let table = plain_masks c.requires.0 inv.1 c.requires.1 c.requires.2 state in
    let first = state_first _ _ c.state_flow-first.ensures table c.requires.0 c.requires.1 c.requires.3 c.requires.4 state in
    (none_more c.requires.0 inv.0 _ first c.if-first-lt-NOWHERE.false, search rules)

pub returns : goal.returns
returns c = search (faults_laws, rules)
