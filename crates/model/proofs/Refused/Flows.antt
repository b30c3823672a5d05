-- The first flow fault in reading order is the first rule of 10 to 12 that is broken: each command's fault decides its own pass, and faults and passes stand in
-- one order. And these passes are the rules of the commands that stand in the bodies.
use Prim.Native.Nat.{ℕ, zero, suc, ◌≤◌, ◌<◌}
use mathlib.Core.Path.{◌≡◌, refl}
use mathlib.Core.Logic.{◌↔◌, ⊎_elim}
use mathlib.Core.Bool.{Bool, true, false}
use mathlib.Core.List.{List, [], ◌∷◌, ◌++◌}
use native.Mathlib.Omega.{arith}
use native.Mathlib.Nat.{le_refl}
use lib.ListN.{length}
use Rattle.model.specs.declared.Refusal.{Refusal}
use Rattle.model.specs.Indices.{join_below}
use Rattle.model.specs.Image.{Design}
use Rattle.model.specs.Lattice.{state_label}
use Rattle.model.specs.Parameters.{label_byte}
use Rattle.model.specs.Trees.{Cmd, skip, assign, sequence, fall, goto, branch, body_of}
use Rattle.model.specs.Flow.{labels_read, named_label, refused_unless, flow_faults, state_flow_faults, first_of, flow_answer}
use Rattle.model.specs.Verdict.{refused_at}
use Rattle.model.specs.Standing.{Stands, whole, in_first, in_second, in_then, in_else, AssignKeeps, GotoKeeps, FallKeeps}
use Rattle.model.specs.Refusals.{◌asks◌, at, AllKept, flow_rules, flow_table}
use Rattle.model.proofs.Laws.Indices.{below_suc, nothing_below_zero}
use Rattle.model.proofs.Laws.Firsts.{first_append, refusals_join}
use Rattle.model.proofs.Laws.Broken.{Decides, decides_one, decides_before, decides_none, all_kept_append}
use Rattle.model.proofs.Laws.Finds.{finds_charged}
use Rattle.model.proofs.Exact.Flows.{flow_faults_lem, state_flow_faults_lem}
use Rattle.model.proofs.Refused.Standing.{each_flow_iff}

-- a command's own fault decides its own rule
own_decides : {P : Type 0} (b : Bool) (refusal : Refusal) (n : ℕ) → ((b ≡ true) ↔ P) → Decides (first_of (refused_unless b refusal n)) 0 ((refusal asks at n P ∷ []) ∷ [])
unfolding first_of refused_at
own_decides true refusal n f = decides_one (finds_charged n f)
own_decides false refusal n f = decides_one (finds_charged n f)

module _ (d : Design) where
  rules_decide : (s : ℕ) (context : List ℕ) (c : Cmd) → Decides (first_of (flow_faults d s context c)) 0 (flow_rules d s context c)
  unfolding flow_faults first_of
  rules_decide s context (skip n) = decides_none 0
  rules_decide s context (assign n r e) = own_decides _ _ n (each_flow_iff d s (context ++ labels_read d e) (label_byte d r))
  rules_decide s context (sequence n p q) =
      rw (first_append (flow_faults d s context q) (flow_faults_lem d s context p).refusals) (decides_before (rules_decide s context p) (λ kept. rules_decide s context q))
  rules_decide s context (fall n) = own_decides _ _ n (each_flow_iff d s context (state_label d s))
  rules_decide s context (goto n t x y) = own_decides _ _ n (each_flow_iff d s context (named_label d t x y))
  rules_decide s context (branch n e p q) =
      let inner = context ++ labels_read d e in
      rw (first_append (flow_faults d s inner q) (flow_faults_lem d s inner p).refusals) (decides_before (rules_decide s inner p) (λ kept. rules_decide s inner q))

  table_decides : (n : ℕ) → Decides (first_of (join_below (state_flow_faults d) n)) 0 (flow_table d n)
  unfolding join_below state_flow_faults first_of
  table_decides zero = decides_none 0
  table_decides (suc n) =
      rw
      (first_append (state_flow_faults d n) (refusals_join (state_flow_faults d) n (λ k. (state_flow_faults_lem d k).refusals)))
      (decides_before (table_decides n) (λ kept. rules_decide n (state_label d n ∷ []) (body_of d n)))

  pub flow_decides : Decides (flow_answer d) 0 (flow_table d (length d.states))
  unfolding flow_answer
  flow_decides = table_decides (length d.states)

  -- ---- the rules by where a command stands
  table_state : (n s : ℕ) → s < n → AllKept (flow_table d n) → AllKept (flow_rules d s (state_label d s ∷ []) (body_of d s))
  table_state zero s l kept = absurd (nothing_below_zero l)
  table_state (suc n) s l kept =
      let both = (all_kept_append (flow_table d n) (flow_rules d n (state_label d n ∷ []) (body_of d n))).0 kept in
      ⊎_elim (λ (b : s < n). table_state n s b both.0) (λ (e : s ≡ n). rw e both.1) (below_suc l)

  stands_kept : {s : ℕ} {context : List ℕ} {c : Cmd} → AllKept (flow_table d (length d.states)) → Stands d s context c → AllKept (flow_rules d s context c)
  stands_kept {s} kept (whole l) = table_state (length d.states) s l kept
  stands_kept {s} kept (in_first {context} {p} {q} stands) = ((all_kept_append (flow_rules d s context p) (flow_rules d s context q)).0 (stands_kept kept stands)).0
  stands_kept {s} kept (in_second {context} {p} {q} stands) = ((all_kept_append (flow_rules d s context p) (flow_rules d s context q)).0 (stands_kept kept stands)).1
  stands_kept {s} kept (in_then {context} {e} {p} {q} stands) = ((all_kept_append (flow_rules d s (context ++ labels_read d e) p) (flow_rules d s (context ++ labels_read d e) q)).0 (stands_kept kept stands)).0
  stands_kept {s} kept (in_else {context} {e} {p} {q} stands) = ((all_kept_append (flow_rules d s (context ++ labels_read d e) p) (flow_rules d s (context ++ labels_read d e) q)).0 (stands_kept kept stands)).1

  -- the three rules, at every node
  abbrev pub FlowKeeps : Type 0
  FlowKeeps = (n : ℕ) → AssignKeeps d n × GotoKeeps d n × FallKeeps d n

  kept_stands : FlowKeeps → {s : ℕ} {context : List ℕ} (c : Cmd) → Stands d s context c → AllKept (flow_rules d s context c)
  kept_stands keeps (skip n) stands = tt
  kept_stands keeps {s} {context} (assign n r e) stands = (λ place. (λ same. (keeps n).0 s r context e stands, tt), tt)
  kept_stands keeps {s} {context} (sequence n p q) stands =
      (all_kept_append (flow_rules d s context p) (flow_rules d s context q)).1 (kept_stands keeps p (in_first stands), kept_stands keeps q (in_second stands))
  kept_stands keeps {s} {context} (fall n) stands = (λ place. (λ same. (keeps n).2 s context stands, tt), tt)
  kept_stands keeps {s} {context} (goto n t x y) stands = (λ place. (λ same. (keeps n).1 s t x y context stands, tt), tt)
  kept_stands keeps {s} {context} (branch n e p q) stands =
      (all_kept_append (flow_rules d s (context ++ labels_read d e) p) (flow_rules d s (context ++ labels_read d e) q)).1 (kept_stands keeps {context = context ++ labels_read d e} p (in_then stands), kept_stands keeps {context = context ++ labels_read d e} q (in_else stands))

  kept_table : FlowKeeps → (n : ℕ) → n ≤ length d.states → AllKept (flow_table d n)
  kept_table keeps zero l = tt
  kept_table keeps (suc n) l =
      (all_kept_append (flow_table d n) (flow_rules d n (state_label d n ∷ []) (body_of d n))).1 (kept_table keeps n (omega arith), kept_stands keeps (body_of d n) (whole l))

  -- the table in reading order has the rule of each command that stands in a body, and no other
  pub flow_table_stands : AllKept (flow_table d (length d.states)) ↔ FlowKeeps
  flow_table_stands = (
    λ kept n. (
      λ s r context e stands. ((stands_kept kept stands).0 n).0 refl,
      λ s t a b context stands. ((stands_kept kept stands).0 n).0 refl,
      λ s context stands. ((stands_kept kept stands).0 n).0 refl,
    ),
    λ keeps. kept_table keeps (length d.states) (le_refl (length d.states)),
  )
