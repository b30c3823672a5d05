-- A pass over the bodies keeps labels labels, only raises them, and leaves every port: it writes joins of labels, each above the label that stood there, and no
-- assignment names a port.
use Prim.Native.Nat.{ℕ, zero, suc, ◌≤◌, ◌<◌}
use mathlib.Core.Path.{◌≡◌, refl, ◌∙◌}
use mathlib.Core.List.{List, [], ◌∷◌, ◌++◌}
use lib.ListN.{length, get_or, length-set}
use lib.Seq.{get_or-set_other}
use Rattle.model.specs.Limits.{parameter_label}
use Rattle.model.specs.Image.{Design, register_at}
use Rattle.model.specs.Lattice.{state_label}
use Rattle.model.specs.Trees.{Expr, Cmd, skip, assign, sequence, fall, goto, branch, body_of}
use Rattle.model.specs.Labelling.{labels_of}
use Rattle.model.specs.Raising.{join_of, labels_read_by, raised_by, raised_by_states, raised_once, raised_times, raised_labels}
use Rattle.model.specs.Rules.{FlowsTo, StructureKeeps}
use Rattle.model.proofs.Laws.Joins.{AreLabels, labels_append, LeastAboveAll, join_least, flow_head}
use Rattle.model.proofs.Laws.Plain.{Plain, PlainLabels, plain_labels}
use Rattle.model.proofs.Laws.Relabelling.{Labelled, length-labels, label_at}
use Rattle.model.proofs.Laws.Spares.{SparesPorts, body_spares}
use Rattle.model.proofs.Raising.Orders.{AtOrBelow, set_cases, below_itself, below_both, reads_labels}

-- what is asked of a design: the rules behind refusals 2 to 9, 16 and 19, a label, and, since 02, E8, no parameters
pub record Raisable (d : Design) : Type 0 where
  pub keeps : StructureKeeps d
  pub some : 0 < length d.rows
  pub few : length d.rows ≤ parameter_label
  pub plain : Plain d

-- labels that came of others by raising
pub record Raised (d : Design) (before after : List ℕ) : Type 0 where
  pub valid : Labelled d after
  pub above : AtOrBelow d.rows before after
  pub ports : (k : ℕ) → (register_at d k).kind ≡ 1 → get_or after k 0 ≡ get_or before k 0

module _ (d : Design) (able : Raisable d) where
  -- ---- what is labels
  pub own_labels : PlainLabels d
  own_labels = plain_labels d able.plain able.keeps able.some able.few

  pub state_valid : (s : ℕ) → state_label d s < length d.rows
  state_valid s = own_labels.states s

  pub own_valid : Labelled d (labels_of d)
  own_valid = record { enough = length-labels d; valid = λ r. rw (label_at d r) (own_labels.registers r) }

  -- what an assignment writes
  pub assigned : (context labels : List ℕ) (r : ℕ) (e : Expr) → AreLabels d.rows context → Labelled d labels
      → LeastAboveAll d.rows (get_or labels r 0 ∷ (context ++ labels_read_by labels e)) (join_of d.rows (get_or labels r 0 ∷ (context ++ labels_read_by labels e)))
  assigned context labels r e around own =
      join_least
      d.rows
      able.keeps.lattice
      able.some
      (get_or labels r 0 ∷ (context ++ labels_read_by labels e))
      (own.valid r, labels_append d.rows context (labels_read_by labels e) around (reads_labels d labels own e))

  pub inner_valid : (context labels : List ℕ) (e : Expr) → AreLabels d.rows context → Labelled d labels → AreLabels d.rows (context ++ labels_read_by labels e)
  inner_valid context labels e around own = labels_append d.rows context (labels_read_by labels e) around (reads_labels d labels own e)

  -- ---- one command
  pub raised_valid : (context : List ℕ) (c : Cmd) (labels : List ℕ) → AreLabels d.rows context → Labelled d labels → Labelled d (raised_by d context c labels)
  unfolding raised_by
  raised_valid context (skip n) labels around own = own
  raised_valid context (assign n r e) labels around own =
      let new = assigned context labels r e around own in
      record {
        enough = length-set labels r _ ∙ own.enough;
        valid = λ k. set_cases (λ l. l < length d.rows) labels r _ k (λ same. new.label) (own.valid k);
      }
  raised_valid context (sequence n p q) labels around own = raised_valid context q _ around (raised_valid context p labels around own)
  raised_valid context (fall n) labels around own = own
  raised_valid context (goto n t x y) labels around own = own
  raised_valid context (branch n e p q) labels around own =
      let inner = inner_valid context labels e around own in
      raised_valid (context ++ labels_read_by labels e) q _ inner (raised_valid (context ++ labels_read_by labels e) p labels inner own)

  pub raised_above : (context : List ℕ) (c : Cmd) (labels : List ℕ) → AreLabels d.rows context → Labelled d labels → AtOrBelow d.rows labels (raised_by d context c labels)
  unfolding raised_by
  raised_above context (skip n) labels around own = below_itself d able.keeps.lattice labels own
  raised_above context (assign n r e) labels around own = λ k.
      let new = assigned context labels r e around own in
      let j = join_of d.rows (get_or labels r 0 ∷ (context ++ labels_read_by labels e)) in
      let above = flow_head d.rows (get_or labels r 0) (context ++ labels_read_by labels e) j ((new.exactly j new.label).1 (able.keeps.lattice.reflexive j new.label)) in
      set_cases (λ l. FlowsTo d.rows (get_or labels k 0) l) labels r j k (λ same. rw same above) (able.keeps.lattice.reflexive (get_or labels k 0) (own.valid k))
  raised_above context (sequence n p q) labels around own =
      let first = raised_valid context p labels around own in
      below_both d able.keeps.lattice labels _ _ own first (raised_valid context q _ around first) (raised_above context p labels around own) (raised_above context q _ around first)
  raised_above context (fall n) labels around own = below_itself d able.keeps.lattice labels own
  raised_above context (goto n t x y) labels around own = below_itself d able.keeps.lattice labels own
  raised_above context (branch n e p q) labels around own =
      let inner = inner_valid context labels e around own in
      let first = raised_valid (context ++ labels_read_by labels e) p labels inner own in
      below_both d able.keeps.lattice labels _ _ own first (raised_valid (context ++ labels_read_by labels e) q _ inner first) (raised_above (context ++ labels_read_by labels e) p labels inner own) (raised_above (context ++ labels_read_by labels e) q _ inner first)

  raised_spares : (k : ℕ) → (register_at d k).kind ≡ 1 → (context : List ℕ) (c : Cmd) (labels : List ℕ) → SparesPorts d c → get_or (raised_by d context c labels) k 0 ≡ get_or labels k 0
  unfolding raised_by
  raised_spares k port context (skip n) labels spares = refl
  raised_spares k port context (assign n r e) labels spares = get_or-set_other labels r k _ 0 (λ same. spares (rw (← same) port))
  raised_spares k port context (sequence n p q) labels spares = raised_spares k port context q _ spares.1 ∙ raised_spares k port context p labels spares.0
  raised_spares k port context (fall n) labels spares = refl
  raised_spares k port context (goto n t x y) labels spares = refl
  raised_spares k port context (branch n e p q) labels spares = raised_spares k port (context ++ labels_read_by labels e) q _ spares.1 ∙ raised_spares k port (context ++ labels_read_by labels e) p labels spares.0

  -- ---- passes
  raised_itself : (labels : List ℕ) → Labelled d labels → Raised d labels labels
  raised_itself labels own = record { valid = own; above = below_itself d able.keeps.lattice labels own; ports = λ k port. refl }

  raised_again : (a b c : List ℕ) → Labelled d a → Raised d a b → Raised d b c → Raised d a c
  raised_again a b c own h k =
      record {
        valid = k.valid;
        above = below_both d able.keeps.lattice a b c own h.valid k.valid h.above k.above;
        ports = λ r port. k.ports r port ∙ h.ports r port;
      }

  raised_body : (s : ℕ) (labels : List ℕ) → Labelled d labels → Raised d labels (raised_by d (state_label d s ∷ []) (body_of d s) labels)
  raised_body s labels own =
      let context = state_label d s ∷ [] in
      let around : AreLabels d.rows context = (state_valid s, tt) in
      record {
        valid = raised_valid context (body_of d s) labels around own;
        above = raised_above context (body_of d s) labels around own;
        ports = λ k port. raised_spares k port context (body_of d s) labels (body_spares d able.keeps s);
      }

  pub raised_states : (n : ℕ) (labels : List ℕ) → Labelled d labels → Raised d labels (raised_by_states d n labels)
  unfolding raised_by_states
  raised_states zero labels own = raised_itself labels own
  raised_states (suc s) labels own =
      let earlier = raised_states s labels own in
      raised_again labels _ _ own earlier (raised_body s _ earlier.valid)

  pub raised_once_lem : (labels : List ℕ) → Labelled d labels → Raised d labels (raised_once d labels)
  unfolding raised_once
  raised_once_lem labels own = raised_states (length d.states) labels own

  pub raised_times_lem : (n : ℕ) (labels : List ℕ) → Labelled d labels → Raised d labels (raised_times d n labels)
  unfolding raised_times
  raised_times_lem zero labels own = raised_itself labels own
  raised_times_lem (suc n) labels own =
      let first = raised_once_lem labels own in
      raised_again labels _ _ own first (raised_times_lem n (raised_once d labels) first.valid)

  pub raised_labels_lem : Raised d (labels_of d) (raised_labels d)
  unfolding raised_labels
  raised_labels_lem = raised_times_lem _ (labels_of d) own_valid
