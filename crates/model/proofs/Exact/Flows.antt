-- The flow answer accepts exactly where every body flows: every fault of flow is a refusal, and a node has one where its own rule fails.
use Prim.Native.Nat.{ℕ, ◌<◌}
use mathlib.Core.Path.{◌≡◌}
use mathlib.Core.Logic.{◌↔◌}
use mathlib.Core.List.{List, [], ◌∷◌, ◌++◌}
use lib.ListN.{length}
use Rattle.model.specs.Answers.{Accepted}
use Rattle.model.specs.Indices.{join_below}
use Rattle.model.specs.Image.{Design}
use Rattle.model.specs.Lattice.{state_label}
use Rattle.model.specs.Trees.{Cmd, skip, assign, sequence, fall, goto, branch, body_of}
use Rattle.model.specs.Flow.{labels_read, flow_faults, state_flow_faults, flow_answer}
use Rattle.model.specs.Rules.{Flows}
use Rattle.model.proofs.Laws.Firsts.{FaultsOf, no_faults, faults_unless, faults_append, faults_join, first_iff}

module _ (d : Design) where
  module _ (s : ℕ) where
    pub flow_faults_lem : (context : List ℕ) (c : Cmd) → FaultsOf (flow_faults d s context c) (Flows d s context c)
    unfolding flow_faults
    flow_faults_lem context (skip n) = no_faults
    flow_faults_lem context (assign n r e) = faults_unless _ _ n
    flow_faults_lem context (sequence n p q) = faults_append (flow_faults_lem context p) (flow_faults_lem context q)
    flow_faults_lem context (fall n) = faults_unless _ _ n
    flow_faults_lem context (goto n t x y) = faults_unless _ _ n
    flow_faults_lem context (branch n e p q) = faults_append (flow_faults_lem (context ++ labels_read d e) p) (flow_faults_lem (context ++ labels_read d e) q)

    pub state_flow_faults_lem : FaultsOf (state_flow_faults d s) (Flows d s (state_label d s ∷ []) (body_of d s))
    unfolding state_flow_faults
    state_flow_faults_lem = flow_faults_lem (state_label d s ∷ []) (body_of d s)

  -- those of all bodies
  pub all_flow_faults : FaultsOf (join_below (state_flow_faults d) (length d.states)) ((s : ℕ) → s < length d.states → Flows d s (state_label d s ∷ []) (body_of d s))
  all_flow_faults = faults_join (length d.states) state_flow_faults_lem

  pub flow_iff : (flow_answer d ≡ Accepted 0) ↔ ((s : ℕ) → s < length d.states → Flows d s (state_label d s ∷ []) (body_of d s))
  unfolding flow_answer
  flow_iff = first_iff all_flow_faults
