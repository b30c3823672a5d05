-- Passes stay at or below every labelling under which the bodies flow: what an assignment writes is the least label above what flows there, and under the
-- other labelling at least that flows there. So where a pass moves nothing and such a labelling is above, the bodies flow.
use Prim.Native.Nat.{ℕ, zero, suc, ◌<◌}
use mathlib.Core.Path.{◌≡◌, sym, ◌∙◌, ap}
use mathlib.Core.Bool.{true}
use mathlib.Core.List.{List, [], ◌∷◌, ◌++◌}
use native.Mathlib.Omega.{arith}
use native.Mathlib.Decide.{dec_lt}
use lib.ListN.{length, get_or, set, get_or-eq_default}
use lib.Seq.{get_or-set_same}
use Rattle.model.specs.Image.{Design}
use Rattle.model.specs.Lattice.{all_flow_to, register_label, state_label}
use Rattle.model.specs.Trees.{Expr, Cmd, skip, assign, sequence, fall, goto, branch, body_of}
use Rattle.model.specs.Labelling.{relabelled}
use Rattle.model.specs.Raising.{join_of, labels_read_by, raised_by, raised_by_states, raised_once, raised_times}
use Rattle.model.specs.Rules.{FlowsTo}
use Rattle.model.proofs.Laws.Indices.{nothing_below_zero, extend}
use Rattle.model.proofs.Laws.Joins.{AreLabels, flow_cons, flow_tail}
use Rattle.model.proofs.Laws.Plain.{plain_read, PlainFlows}
use Rattle.model.proofs.Laws.Relabelling.{Labelled, register_label_lem, plain_labels_read}
use Rattle.model.proofs.Raising.Orders.{AtOrBelow, Under, under_append, set_cases, below_same, reads_under}
use Rattle.model.proofs.Raising.Passes.{Raisable, state_valid, assigned, inner_valid, raised_valid, raised_above, raised_states, raised_once_lem}

-- the bodies of the first n states flow under the labels
abbrev pub BodiesFlow : Design → List ℕ → ℕ → Type 0
BodiesFlow d labels n = (s : ℕ) → s < n → PlainFlows (relabelled d labels) s (state_label d s ∷ []) (body_of d s)

module _ (d : Design) (able : Raisable d) (upper : List ℕ) (theirs : Labelled d upper) where
  -- what flows to a register under the upper labelling flows to its upper label from below too
  assign_under : (context around labels : List ℕ) (r : ℕ) (e : Expr) → Labelled d labels → Under d.rows context around → AtOrBelow d.rows labels upper
      → all_flow_to d.rows (around ++ plain_read (relabelled d upper) e) (register_label (relabelled d upper) r) ≡ true → all_flow_to d.rows (context ++ labels_read_by labels e) (get_or upper r 0) ≡ true
  assign_under context around labels r e own under below h =
      let read : all_flow_to d.rows (around ++ labels_read_by upper e) (get_or upper r 0) ≡ true =
      rw (plain_labels_read d upper theirs.enough e, register_label_lem d upper theirs.enough r) at h in
      under_append d.rows context (labels_read_by labels e) around (labels_read_by upper e) under (reads_under d able.keeps.lattice labels upper own theirs below e) (get_or upper r 0) (theirs.valid r) read

  inner_under : (context around labels : List ℕ) (e : Expr) → Labelled d labels → Under d.rows context around → AtOrBelow d.rows labels upper
      → Under d.rows (context ++ labels_read_by labels e) (around ++ plain_read (relabelled d upper) e)
  inner_under context around labels e own under below =
      rw (plain_labels_read d upper theirs.enough e)
      (under_append d.rows context (labels_read_by labels e) around (labels_read_by upper e) under (reads_under d able.keeps.lattice labels upper own theirs below e))

  -- ---- one command of a state
  module _ (s : ℕ) where
    raised_least : (context around : List ℕ) (c : Cmd) (labels : List ℕ) → AreLabels d.rows context → Labelled d labels → Under d.rows context around → AtOrBelow d.rows labels upper
        → PlainFlows (relabelled d upper) s around c → AtOrBelow d.rows (raised_by d context c labels) upper
    unfolding raised_by
    raised_least context around (skip n) labels valid own under below flows = below
    raised_least context around (assign n r e) labels valid own under below flows = λ k.
        let rest = context ++ labels_read_by labels e in
        let j = join_of d.rows (get_or labels r 0 ∷ rest) in
        let all = flow_cons d.rows (get_or labels r 0) rest (get_or upper r 0) (below r) (assign_under context around labels r e own under below flows) in
        let least = ((assigned d able context labels r e valid own).exactly (get_or upper r 0) (theirs.valid r)).0 all in
        set_cases (λ l. FlowsTo d.rows l (get_or upper k 0)) labels r j k (λ same. rw same least) (below k)
    raised_least context around (sequence n p q) labels valid own under below flows =
        raised_least context around q _ valid (raised_valid d able context p labels valid own) under (raised_least context around p labels valid own under below flows.0) flows.1
    raised_least context around (fall n) labels valid own under below flows = below
    raised_least context around (goto n t x y) labels valid own under below flows = below
    raised_least context around (branch n e p q) labels valid own under below flows =
        let inner = inner_valid d able context labels e valid own in
        let inside = inner_under context around labels e own under below in
        raised_least (context ++ labels_read_by labels e) _ q _ inner (raised_valid d able (context ++ labels_read_by labels e) p labels inner own) inside (raised_least (context ++ labels_read_by labels e) _ p labels inner own inside below flows.0) flows.1

    -- of two parts that move nothing together, the first moves nothing
    first_stays : (context : List ℕ) (p q : Cmd) (labels : List ℕ) → AreLabels d.rows context → Labelled d labels
        → raised_by d context q (raised_by d context p labels) ≡ labels → raised_by d context p labels ≡ labels
    first_stays context p q labels valid own stays =
        let middle = raised_valid d able context p labels valid own in
        let back : AtOrBelow d.rows (raised_by d context p labels) labels = rw stays at (raised_above d able context q (raised_by d context p labels) valid middle) in
        below_same d able.keeps.lattice (raised_by d context p labels) labels middle own back (raised_above d able context p labels valid own)

    second_stays : (context : List ℕ) (p q : Cmd) (labels : List ℕ) → AreLabels d.rows context → Labelled d labels
        → raised_by d context q (raised_by d context p labels) ≡ labels → raised_by d context q labels ≡ labels
    second_stays context p q labels valid own stays = ap (raised_by d context q) (sym (first_stays context p q labels valid own stays)) ∙ stays

    -- an assignment that moves nothing keeps its rule
    assign_flows_lem : (context labels : List ℕ) (r : ℕ) (e : Expr) → AreLabels d.rows context → Labelled d labels
        → all_flow_to d.rows (context ++ labels_read_by labels e) (get_or upper r 0) ≡ true
        → set labels r (join_of d.rows (get_or labels r 0 ∷ (context ++ labels_read_by labels e))) ≡ labels
        → all_flow_to d.rows (context ++ labels_read_by labels e) (get_or labels r 0) ≡ true
    assign_flows_lem context labels r e valid own there stays = go (dec_lt r (length labels))
      where
        go : Dec (r < length labels) → all_flow_to d.rows (context ++ labels_read_by labels e) (get_or labels r 0) ≡ true
        go (yes l) =
            let rest = context ++ labels_read_by labels e in
            let j = join_of d.rows (get_or labels r 0 ∷ rest) in
            let new = assigned d able context labels r e valid own in
            let same : j ≡ get_or labels r 0 = sym (get_or-set_same labels r j 0 l) ∙ ap (λ (xs : List ℕ). get_or xs r 0) stays in
            let all = flow_tail d.rows (get_or labels r 0) rest j ((new.exactly j new.label).1 (able.keeps.lattice.reflexive j new.label)) in
            ap (all_flow_to d.rows rest) (sym same) ∙ all
        go (no l) =
            let long = own.enough ∙ sym theirs.enough in
            let none : get_or labels r 0 ≡ 0 = get_or-eq_default labels 0 {n = r} (omega arith) in
            let others : get_or upper r 0 ≡ 0 = get_or-eq_default upper 0 {n = r} (omega arith) in
            ap (all_flow_to d.rows (context ++ labels_read_by labels e)) (none ∙ sym others) ∙ there

    raised_flows : (context around : List ℕ) (c : Cmd) (labels : List ℕ) → AreLabels d.rows context → Labelled d labels → Under d.rows context around → AtOrBelow d.rows labels upper
        → PlainFlows (relabelled d upper) s around c → raised_by d context c labels ≡ labels → PlainFlows (relabelled d labels) s context c
    unfolding raised_by
    raised_flows context around (skip n) labels valid own under below flows stays = tt
    raised_flows context around (assign n r e) labels valid own under below flows stays =
        rw (plain_labels_read d labels own.enough e, register_label_lem d labels own.enough r)
        (assign_flows_lem context labels r e valid own (assign_under context around labels r e own under below flows) stays)
    raised_flows context around (sequence n p q) labels valid own under below flows stays = (
      raised_flows context around p labels valid own under below flows.0 (first_stays context p q labels valid own stays),
      raised_flows context around q labels valid own under below flows.1 (second_stays context p q labels valid own stays),
    )
    raised_flows context around (fall n) labels valid own under below flows stays = under (state_label d s) (state_valid d able s) flows
    raised_flows context around (goto n t x y) labels valid own under below flows stays = under (state_label d t) (state_valid d able t) flows
    raised_flows context around (branch n e p q) labels valid own under below flows stays =
        let inner = inner_valid d able context labels e valid own in
        let inside = inner_under context around labels e own under below in
        rw (plain_labels_read d labels own.enough e) (
          raised_flows (context ++ labels_read_by labels e) _ p labels inner own inside below flows.0 (first_stays _ p q labels inner own stays),
          raised_flows (context ++ labels_read_by labels e) _ q labels inner own inside below flows.1 (second_stays _ p q labels inner own stays),
        )

  -- ---- the bodies of the first n states, and passes
  around_valid : (s : ℕ) → AreLabels d.rows (state_label d s ∷ [])
  around_valid s = (state_valid d able s, tt)

  states_least : (n : ℕ) (labels : List ℕ) → Labelled d labels → AtOrBelow d.rows labels upper → BodiesFlow d upper n → AtOrBelow d.rows (raised_by_states d n labels) upper
  unfolding raised_by_states
  states_least zero labels own below flows = below
  states_least (suc s) labels own below flows =
      raised_least s (state_label d s ∷ []) (state_label d s ∷ []) (body_of d s) _ (around_valid s) (raised_states d able s labels own).valid (λ l k f. f) (states_least s labels own below (λ t k. flows t (omega arith))) (flows s (omega arith))

  -- the bodies of the first states that move nothing with one more move nothing
  earlier_stay : (s : ℕ) (labels : List ℕ) → Labelled d labels → raised_by_states d (suc s) labels ≡ labels → raised_by_states d s labels ≡ labels
  unfolding raised_by_states
  earlier_stay s labels own stays =
      let middle = raised_states d able s labels own in
      let back : AtOrBelow d.rows (raised_by_states d s labels) labels =
      rw stays at (raised_above d able (state_label d s ∷ []) (body_of d s) (raised_by_states d s labels) (around_valid s) middle.valid) in
      below_same d able.keeps.lattice (raised_by_states d s labels) labels middle.valid own back middle.above

  last_stays : (s : ℕ) (labels : List ℕ) → Labelled d labels → raised_by_states d (suc s) labels ≡ labels → raised_by d (state_label d s ∷ []) (body_of d s) labels ≡ labels
  unfolding raised_by_states
  last_stays s labels own stays = ap (raised_by d (state_label d s ∷ []) (body_of d s)) (sym (earlier_stay s labels own stays)) ∙ stays

  states_flow : (n : ℕ) (labels : List ℕ) → Labelled d labels → AtOrBelow d.rows labels upper → BodiesFlow d upper n → raised_by_states d n labels ≡ labels → BodiesFlow d labels n
  states_flow zero labels own below flows stays = λ s l. absurd (nothing_below_zero l)
  states_flow (suc n) labels own below flows stays =
      extend
      n
      (states_flow n labels own below (λ t k. flows t (omega arith)) (earlier_stay n labels own stays))
      (raised_flows n (state_label d n ∷ []) (state_label d n ∷ []) (body_of d n) labels (around_valid n) own (λ l k f. f) below (flows n (omega arith)) (last_stays n labels own stays))

  pub once_least : (labels : List ℕ) → Labelled d labels → AtOrBelow d.rows labels upper → BodiesFlow d upper (length d.states) → AtOrBelow d.rows (raised_once d labels) upper
  unfolding raised_once
  once_least labels own below flows = states_least (length d.states) labels own below flows

  pub times_least : (n : ℕ) (labels : List ℕ) → Labelled d labels → AtOrBelow d.rows labels upper → BodiesFlow d upper (length d.states) → AtOrBelow d.rows (raised_times d n labels) upper
  unfolding raised_times
  times_least zero labels own below flows = below
  times_least (suc n) labels own below flows = times_least n (raised_once d labels) (raised_once_lem d able labels own).valid (once_least labels own below flows) flows

  pub once_flows : (labels : List ℕ) → Labelled d labels → AtOrBelow d.rows labels upper → BodiesFlow d upper (length d.states) → raised_once d labels ≡ labels
      → BodiesFlow d labels (length d.states)
  unfolding raised_once
  once_flows labels own below flows stays = states_flow (length d.states) labels own below flows stays
