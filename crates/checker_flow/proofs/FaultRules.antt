-- What the place that the recursion gives says: the first fault of the command, and so of the body, by induction over node numbers; and the loop over the states.
use Prim.Native.Nat.{ℕ, zero, suc, ◌+◌, ◌≤◌, ◌<◌}
use mathlib.Core.Path.{◌≡◌, refl, sym, ◌∙◌, ap}
use mathlib.Core.Bool.{Bool}
use mathlib.Core.List.{List, [], ◌∷◌, ◌++◌}
use native.Mathlib.Omega.{arith}
use native.Mathlib.Numerals.{add-one}
use lib.Bits.{bit_and}
use lib.ListN.{length, get_or}
use Rattle.model.specs.declared.Refusal.{Refusal}
use Rattle.model.specs.Answers.{Answer, Accepted}
use Rattle.model.specs.Limits.{commands_max}
use Rattle.model.specs.Indices.{join_below}
use Rattle.model.specs.Image.{Design as Table, Node, design_of, command_at}
use Rattle.model.specs.Lattice.{state_label}
use Rattle.model.specs.Kinds.{assigns, falls, goes, command_kind}
use Rattle.model.specs.Trees.{assign, expr_of, cmd_of, body_of}
use Rattle.model.specs.Labelling.{relabelled}
use Rattle.model.specs.Flow.{refused_unless, labels_read, named_label, flows_each, assign_flows, fall_flows, goto_flows, flow_faults, state_flow_faults, first_of, flow_answer, flow_refusal}
use Rattle.model.specs.Verdict.{◌before◌}
use Rattle.model.specs.Rules.{Scoped}
use Rattle.model.proofs.Laws.Indices.{nothing_below_zero}
use Rattle.model.proofs.Laws.Firsts.{AreRefusals, first_append, first_stays, refusals_join}
use Rattle.model.proofs.Laws.Trees.{cmd_assign, cmd_fall, cmd_goto}
use Rattle.model.proofs.Laws.Labelling.{relabelled_body}
use Rattle.model.proofs.Exact.Flows.{flow_faults_lem, state_flow_faults_lem}
use Rattle.design.specs.declared.Design.{Design}
use Rattle.design.specs.Records.{node_in}
use Rattle.design.specs.Kept.{RecordsKept, ParametersKept}
use Rattle.design.specs.Labels.{LabelsKept}
use Rattle.design.proofs.Laws.{states_count, registers_few, commands_few}
use Rattle.design.proofs.FieldRules.{command_below, same_command, command_kind_of, command_holds_lem, sequence_a_below, sequence_b_below, branch_b_below, branch_c_below}
use Rattle.checker_bodies.specs.Places.{place_unless}
use Rattle.checker_flow.specs.Masks.{MaskOf, Masks}
use Rattle.checker_flow.specs.Flows.{BodiesKept, Named, label_in, mask_read, has_bit, assign_place, flow_place, Flowing, answer_among}
use Rattle.checker_flow.proofs.MaskRules.{flows_each_relabelled, mask_both, named_byte, label_is, label_byte_lem}
use Rattle.checker_flow.proofs.FlowRules.{FirstAt, answer_at, answer_none, first_charged, first_nowhere, first_both, read_is_mask, assigned_gathering}
use Rattle.checker_flow.proofs.FlowKinds.{sequence_tree, sequence_first, sequence_second, branch_tree, branch_scoped, branch_first, branch_second, skip_tree, assigning, condition_gathering, going_goto, goes_byte, own_byte, body_tree, label_stands, state_flowing}

-- ---- a command
-- the place of command n says the first of its faults, in each context of which the mask is known
pub record Says (d : Table) (labels masks : List ℕ) (s n : ℕ) : Type 0 where
  pub first : (context : ℕ) (from : List ℕ) → MaskOf d s from context → FirstAt d (flow_place d labels masks s context (cmd_of d n)) (flow_faults (relabelled d labels) s from (cmd_of d n))

module _ {image labels masks : List ℕ} {x : Design} {s own : ℕ} where
  module _ {n : ℕ} (flowing : Flowing image labels masks x s own n) (below : (m : ℕ) → m < n → Flowing image labels masks x s own m → Says (design_of image) labels masks s m) where
    abbrev d : Table
    d = design_of image

    abbrev under : Table
    under = relabelled d labels

    few_commands : length d.commands ≤ commands_max
    few_commands = commands_few flowing.known.describes

    charged : {r : Refusal} (b : Bool) → flow_refusal (command_kind (command_at d n).kind) ≡ r → FirstAt d (place_unless b n) (refused_unless b r n)
    charged b e = first_charged d b (command_below flowing.command) few_commands e

    says_skip : {k : ℕ} → k ≡ (node_in image x.commands_at n).kind → (k ≡ 1 → ⊥) → (k ≡ 2 → ⊥) → (k ≡ 3 → ⊥) → (k ≡ 4 → ⊥) → (k ≡ 5 → ⊥) → Says (design_of image) labels masks s n
    unfolding flow_place flow_faults
    says_skip byte a b c e f =
        record {
          first = λ context from mask.
              rw (skip_tree flowing byte a b c e f) (first_nowhere d few_commands);
        }

    says_assign : 1 ≡ (node_in image x.commands_at n).kind → Says (design_of image) labels masks s n
    unfolding command_kind flow_place assign_place flow_faults flow_refusal
    says_assign byte =
        record {
          first = λ context from mask.
              let r = (command_at d n).item in
              let e = expr_of d (command_at d n).a in
              let few = registers_few flowing.known.describes in
              let kind = command_kind_of flowing.command assigns refl byte refl in
              let tree = cmd_assign d n kind in
              let scoped : Scoped d s (assign n r e) = rw tree at flowing.scoped.scoped in
              let named : Named d s r = named_byte few (command_holds_lem flowing.command refl byte).0 scoped.0 in
              let field = ap (λ (y : Node). y.a) (sym (same_command flowing.command)) in
              let both = mask_both mask (read_is_mask labels flowing.table (command_at d n).a (assigned_gathering (assigning flowing refl byte) field) scoped.1) in
              let same : has_bit (bit_and context (mask_read labels masks e)) (label_in labels r) ≡ assign_flows under s from r e = both.bits (label_in labels r) (label_byte_lem few flowing.labelling named) ∙ sym (flows_each_relabelled d s labels (from ++ labels_read under e) (label_in labels r)) ∙ ap (flows_each under s (from ++ labels_read under e)) (label_is few flowing.labelling named) in
              rw (tree, ← same) (charged (has_bit (bit_and context (mask_read labels masks e)) (label_in labels r)) (ap flow_refusal kind));
        }

    says_sequence : 2 ≡ (node_in image x.commands_at n).kind → Says (design_of image) labels masks s n
    unfolding flow_place flow_faults
    says_sequence byte =
        record {
          first = λ context from mask.
              let a = (node_in image x.commands_at n).a in
              let b = (node_in image x.commands_at n).b in
              let at = flowing.command in
              rw (sequence_tree flowing refl byte refl refl)
              (first_both
              d
              few_commands
              (flow_faults_lem under s from (cmd_of d a)).refusals
              ((below a (sequence_a_below at refl byte refl) (sequence_first flowing refl byte refl refl)).first context from mask)
              ((below b (sequence_b_below at refl byte refl) (sequence_second flowing refl byte refl refl)).first context from mask));
        }

    says_fall : 3 ≡ (node_in image x.commands_at n).kind → Says (design_of image) labels masks s n
    unfolding command_kind flow_place flow_faults flow_refusal
    says_fall byte =
        record {
          first = λ context from mask.
              let kind = command_kind_of flowing.command falls refl byte refl in
              let same : has_bit context (state_label d s) ≡ fall_flows under s from = mask.bits (state_label d s) (own_byte flowing) ∙ sym (flows_each_relabelled d s labels from (state_label d s)) in
              rw (cmd_fall d n kind, ← same) (charged (has_bit context (state_label d s)) (ap flow_refusal kind));
        }

    says_goto : 4 ≡ (node_in image x.commands_at n).kind → Says (design_of image) labels masks s n
    unfolding command_kind flow_place flow_faults flow_refusal
    says_goto byte =
        record {
          first = λ context from mask.
              let kind = command_kind_of flowing.command goes refl byte refl in
              let named = named_label under (command_at d n).item (command_at d n).a (command_at d n).b in
              let same : has_bit context named ≡ goto_flows under s from (command_at d n).item (command_at d n).a (command_at d n).b = mask.bits named (goes_byte (going_goto flowing refl byte)) ∙ sym (flows_each_relabelled d s labels from named) in
              rw (cmd_goto d n kind, ← same) (charged (has_bit context named) (ap flow_refusal kind));
        }

    says_branch : 5 ≡ (node_in image x.commands_at n).kind → Says (design_of image) labels masks s n
    unfolding flow_place flow_faults
    says_branch byte =
        record {
          first = λ context from mask.
              let e = (node_in image x.commands_at n).a in
              let b = (node_in image x.commands_at n).b in
              let c = (node_in image x.commands_at n).c in
              let at = flowing.command in
              let inner = bit_and context (mask_read labels masks (expr_of d e)) in
              let around = from ++ labels_read under (expr_of d e) in
              let inside : MaskOf d s around inner = mask_both mask (read_is_mask labels flowing.table e (condition_gathering flowing refl byte refl) (branch_scoped flowing refl byte refl refl refl).0) in
              rw (branch_tree flowing refl byte refl refl refl)
              (first_both
              d
              few_commands
              (flow_faults_lem under s around (cmd_of d b)).refusals
              ((below b (branch_b_below at refl byte refl) (branch_first flowing refl byte refl refl refl)).first inner around inside)
              ((below c (branch_c_below at refl byte refl) (branch_second flowing refl byte refl refl refl)).first inner around inside));
        }

    says_one : Says (design_of image) labels masks s n
    says_one = go (node_in image x.commands_at n).kind refl
      where
        go : (k : ℕ) → k ≡ (node_in image x.commands_at n).kind → Says (design_of image) labels masks s n
        go zero byte = says_skip byte (λ z. omega arith) (λ z. omega arith) (λ z. omega arith) (λ z. omega arith) (λ z. omega arith)
        go (suc zero) byte = says_assign byte
        go (suc (suc zero)) byte = says_sequence byte
        go (suc (suc (suc zero))) byte = says_fall byte
        go (suc (suc (suc (suc zero)))) byte = says_goto byte
        go (suc (suc (suc (suc (suc zero))))) byte = says_branch byte
        go (suc (suc (suc (suc (suc (suc k)))))) byte = says_skip byte (λ z. omega arith) (λ z. omega arith) (λ z. omega arith) (λ z. omega arith) (λ z. omega arith)

  says_below : (f n : ℕ) → n < f → Flowing image labels masks x s own n → Says (design_of image) labels masks s n
  says_below zero n l flowing = absurd (nothing_below_zero l)
  says_below (suc f) n l flowing = says_one flowing (λ m h. says_below f m (omega arith))

  first_fault : {n : ℕ} → Flowing image labels masks x s own n → Says (design_of image) labels masks s n
  first_fault {n} flowing = says_below (suc n) n (omega arith) flowing

-- ---- the body of a state, whose context is its label
pub state_first :
    {image : List ℕ} {x : Design} {s place : ℕ} (labels masks : List ℕ)
    → place ≡ flow_place (design_of image) labels masks s (get_or masks (state_label (design_of image) s) 0) (body_of (design_of image) s)
    → Masks (design_of image) s masks
    → RecordsKept image x
    → ParametersKept (design_of image)
    → LabelsKept (design_of image) labels
    → BodiesKept (design_of image)
    → s < x.states
    → FirstAt (design_of image) place (state_flow_faults (relabelled (design_of image) labels) s)
unfolding state_flow_faults
state_first {image} {x} {s} labels masks e table known parameters labelling bodies l =
    let d = design_of image in
    let flowing = state_flowing known parameters l labelling bodies table refl refl in
    let body = body_tree known parameters l refl in
    rw (e, relabelled_body d labels s, ← body)
    ((first_fault flowing).first (get_or masks (state_label d s) 0) (state_label d s ∷ []) (table.entry (state_label d s) (label_stands known parameters l)))

-- ---- the loop over states
-- the states before s have no fault
pub record NoneSo (d : Table) (labels : List ℕ) (s : ℕ) : Type 0 where
  pub is : first_of (join_below (state_flow_faults (relabelled d labels)) s) ≡ Accepted 0

module _ (d : Table) (labels : List ℕ) where
  abbrev faults_of : ℕ → List Answer
  faults_of s = state_flow_faults (relabelled d labels) s

  refusals : (s : ℕ) → AreRefusals (faults_of s)
  refusals s = (state_flow_faults_lem (relabelled d labels) s).refusals

  -- what the states before s and s itself have, where those before have none
  one_further : (s : ℕ) → NoneSo d labels s → first_of (join_below faults_of (suc s)) ≡ first_of (faults_of s)
  unfolding join_below ◌before◌
  one_further s so = first_append (faults_of s) (refusals_join faults_of s refusals) ∙ rw so.is

pub none_yet : (d : Table) (labels : List ℕ) → NoneSo d labels 0
unfolding join_below first_of
none_yet d labels = record { is = refl }

module _ {image labels : List ℕ} {x : Design} {s : ℕ} (known : RecordsKept image x) (so : NoneSo (design_of image) labels s) where
  pub none_more : (place : ℕ) → FirstAt (design_of image) place (state_flow_faults (relabelled (design_of image) labels) s) → commands_max ≤ place → NoneSo (design_of image) labels (s + 1)
  none_more place here l =
      let few = commands_few known.describes in
      record { is = rw (add-one s) (one_further (design_of image) labels s so ∙ (sym here.says ∙ answer_none (design_of image) (omega arith))) }

  pub some_here :
      {place : ℕ} {a : Answer}
      → FirstAt (design_of image) place (state_flow_faults (relabelled (design_of image) labels) s)
      → s < x.states
      → place < commands_max
      → a ≡ answer_among (design_of image) place
      → a ≡ flow_answer (relabelled (design_of image) labels)
  unfolding flow_answer
  some_here here l m e =
      let d = design_of image in
      let count = states_count known.describes in
      let refused = answer_at d (here.command m) in
      e ∙ (refused ∙ sym (first_stays (faults_of d labels) (refusals d labels) (one_further d labels s so ∙ (sym here.says ∙ refused)) (length d.states) (omega arith)))

  pub none_of_all : s ≤ x.states → x.states ≤ s → Accepted 0 ≡ flow_answer (relabelled (design_of image) labels)
  unfolding flow_answer
  none_of_all l m =
      let count = states_count known.describes in
      let end : s ≡ length (design_of image).states = omega arith in
      sym so.is ∙ ap (λ (n : ℕ). first_of (join_below (faults_of (design_of image) labels) n)) end

pub ruleset faults_laws = (none_yet, none_of_all)
