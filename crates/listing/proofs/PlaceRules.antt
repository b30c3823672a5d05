-- The place of a refusal is small: a label, a register, a state or a node of an image that keeps its directory, and a tree has no other nodes.
use Rattle.std.specs.Prelude.{Option, Some, None, Err}
use Prim.Native.Nat.{ℕ, ◌+◌, ◌≤◌, ◌<◌}
use mathlib.Core.Path.{◌≡◌, refl, sym, ◌∙◌, ap}
use mathlib.Core.Bool.{Bool, true, false}
use mathlib.Core.List.{List, [], ◌∷◌, ◌++◌}
use native.Mathlib.Omega.{arith}
use lib.ListN.{length}
use Rattle.model.specs.declared.Refusal.{Refusal}
use Rattle.model.specs.declared.Refusal.TheVariants.{Directory, LabelRow, RegisterRecord, StateRecord, NodeRecord, NodeUse, Depth, Shape, ChildLabel, PortAssigned, Parameter, AssignFlow, GotoFlow, FallFlow}
use Rattle.model.specs.Answers.{Answer, Accepted, Refused}
use Rattle.model.specs.Limits.{expression_place}
use Rattle.model.specs.Indices.{lowest_failing}
use Rattle.model.specs.Image.{Design as Table, Labels, Registers, States, Commands, Expressions, design_of, directory_kept, state_at}
use Rattle.model.specs.Trees.{Cmd, skip, assign, sequence, fall, goto, branch, body_of}
use Rattle.model.specs.Shape.{state_shape_faults, shape_fault}
use Rattle.model.specs.Flow.{refused_unless, labels_read, assign_flows, goto_flows, fall_flows, flow_faults, state_flow_faults, first_of, flow_answer}
use Rattle.model.specs.Lattice.{state_label}
use Rattle.model.specs.States.{state_kept}
use Rattle.model.specs.Scopes.{state_scope_faults, scope_fault}
use Rattle.model.specs.Verdict.{◌before◌, refused_at, at_zero_unless, commands_first, lowest_node, design_structure, structure, verdict}
use Rattle.model.proofs.Laws.Indices.{failing_none, lowest_failing_below}
use Rattle.model.proofs.Laws.Charged.{Each, none, one_more, each_append, each_join, FoundBelow, found_at, found_nowhere, lowest_below, below_more, Numbered, body_numbered, state_shape_below, state_scope_below}
use Rattle.model.proofs.Laws.Found.{at_is_not_nowhere}
use Rattle.model.proofs.Laws.Verdict.{refused_is_not_accepted, same_refusal}
use Rattle.model.proofs.Laws.Images.{label_count, register_count, state_count, command_count, expression_count}
use Rattle.model.proofs.Exact.{structure_counts_nothing, structure_exact}
use Rattle.model.proofs.Exact.Directories.{directory_iff}
use Rattle.model.proofs.Exact.Records.{state_iff}

-- ---- places below b
abbrev PlacedBelow : ℕ → Answer → Type 0
PlacedBelow b a = (r : Refusal) (p : ℕ) → a ≡ Refused r p → p < b

placed_refused : (b : ℕ) (r : Refusal) (n : ℕ) → n < b → PlacedBelow b (Refused r n)
placed_refused b r n l s p e = let same = (same_refusal e).1 in omega arith

placed_accepted : (b n : ℕ) → PlacedBelow b (Accepted n)
placed_accepted b n r p e = absurd (refused_is_not_accepted r p n (sym e))

-- a stage, and what comes after it where the stage refuses nothing
placed_before : (b : ℕ) (r : Refusal) (f : Option ℕ) (later : Answer) → FoundBelow b f → (f ≡ None → PlacedBelow b later) → PlacedBelow b (refused_at r f before later)
unfolding refused_at ◌before◌
placed_before b r (Some n) later h k = placed_refused b r n (h n refl)
placed_before b r None later h k = k refl

-- the last stage, and two groups of stages
placed_searched : (b : ℕ) (r : Refusal) (f : Option ℕ) → FoundBelow b f → PlacedBelow b (refused_at r f)
unfolding refused_at
placed_searched b r (Some n) h = placed_refused b r n (h n refl)
placed_searched b r None h = placed_accepted b 0

placed_both : (b : ℕ) (first later : Answer) → PlacedBelow b first → ((n : ℕ) → first ≡ Accepted n → PlacedBelow b later) → PlacedBelow b (first before later)
unfolding ◌before◌
placed_both b (Err why) later h k = h
placed_both b (Accepted n) later h k = k n refl

-- the first of refusals
first_of_below : (b : ℕ) {xs : List Answer} → Each (PlacedBelow b) xs → PlacedBelow b (first_of xs)
unfolding first_of
first_of_below b none = placed_accepted b 0
first_of_below b (one_more l h) = l

-- ---- the faults of a tree
module _ (d : Table) (commands : length d.commands ≤ 1024) (expressions : length d.expressions ≤ 2048) where
  unless_below : (w : Bool) (r : Refusal) (n : ℕ) → n < length d.commands → Each (PlacedBelow 3072) (refused_unless w r n)
  unless_below true r n l = none
  unless_below false r n l = one_more (placed_refused 3072 r n (omega arith)) none

  flow_below : (s : ℕ) (context : List ℕ) (c : Cmd) → Numbered d c → Each (PlacedBelow 3072) (flow_faults d s context c)
  unfolding flow_faults
  flow_below s context (skip n) h = none
  flow_below s context (assign n r e) h = unless_below (assign_flows d s context r e) AssignFlow n h.0
  flow_below s context (sequence n p q) h = each_append (flow_below s context p h.1) (flow_below s context q h.2)
  flow_below s context (fall n) h = unless_below (fall_flows d s context) FallFlow n h
  flow_below s context (goto n t a b) h = unless_below (goto_flows d s context t a b) GotoFlow n h
  flow_below s context (branch n e p q) h = each_append (flow_below s (context ++ labels_read d e) p h.2) (flow_below s (context ++ labels_read d e) q h.3)

  shape_fault_below : ((s : ℕ) → s < length d.states → (state_at d s).command < length d.commands) → FoundBelow 3072 (shape_fault d)
  unfolding shape_fault
  shape_fault_below bodies =
      lowest_below 3072 (each_join (state_shape_faults d) (length d.states) (λ s l. below_more (omega arith) (state_shape_below d s (bodies s l))))

  scope_fault_below : FoundBelow 3072 (scope_fault d)
  unfolding scope_fault
  scope_fault_below = lowest_below 3072 (each_join (state_scope_faults d) (length d.states) (λ s l. state_scope_below d commands expressions s))

  flow_answer_below : PlacedBelow 3072 (flow_answer d)
  unfolding flow_answer state_flow_faults
  flow_answer_below = first_of_below 3072 (each_join (state_flow_faults d) (length d.states) (λ s l. flow_below s (state_label d s ∷ []) (body_of d s) (body_numbered d s)))

-- ---- the stages
failing_below : (rule : ℕ → Bool) (n b : ℕ) → n ≤ b → FoundBelow b (lowest_failing rule n)
failing_below rule n b l p e = let below = lowest_failing_below rule n p e in omega arith

first_below : (f g : Option ℕ) → FoundBelow 1024 f → FoundBelow 2048 g → FoundBelow 3072 (commands_first f g)
first_below (Some n) g h k = let below = h n refl in found_at 3072 n (omega arith)
first_below None (Some n) h k = let below = k n refl in found_at 3072 (expression_place + n) (omega arith)
first_below None None h k = found_nowhere 3072

module _ (d : Table) (rows : length d.rows ≤ 3072) (registers : length d.registers ≤ 3072) (states : length d.states ≤ 3072) (commands : length d.commands ≤ 1024) (expressions : length d.expressions ≤ 2048) where
  node_below : (command expression : ℕ → Bool) → FoundBelow 3072 (lowest_node d command expression)
  unfolding lowest_node
  node_below command expression =
      first_below
      (lowest_failing command (length d.commands))
      (lowest_failing expression (length d.expressions))
      (failing_below command (length d.commands) 1024 commands)
      (failing_below expression (length d.expressions) 2048 expressions)

  command_below : lowest_failing (state_kept d) (length d.states) ≡ None → (s : ℕ) → s < length d.states → (state_at d s).command < length d.commands
  command_below e s l = ((state_iff d s).0 (failing_none (state_kept d) (length d.states) e s l)).command

  design_below : PlacedBelow 3072 (design_structure d)
  unfolding design_structure
  design_below =
      placed_before 3072 LabelRow _ _ (failing_below _ (length d.rows) 3072 rows)
      (λ e1. placed_before 3072 RegisterRecord _ _ (failing_below _ (length d.registers) 3072 registers)
      (λ e2. placed_before 3072 StateRecord _ _ (failing_below _ (length d.states) 3072 states)
      (λ e3. placed_before 3072 NodeRecord _ _ (node_below _ _)
      (λ e4. placed_before 3072 NodeUse _ _ (node_below _ _)
      (λ e5. placed_before 3072 Depth _ _ (node_below _ _)
      (λ e6. placed_before 3072 Shape _ _ (shape_fault_below d commands expressions (command_below e3))
      (λ e7. placed_before 3072 PortAssigned _ _ (failing_below _ (length d.commands) 3072 (omega arith))
      (λ e8. placed_before 3072 Parameter _ _ (failing_below _ (length d.states) 3072 states)
      (λ e9. placed_before 3072 Parameter _ _ (scope_fault_below d commands expressions)
      (λ e10. placed_searched 3072 ChildLabel _ (failing_below _ (length d.states) 3072 states)))))))))))

zero_below : (w : Bool) → FoundBelow 3072 (at_zero_unless w)
zero_below true = found_nowhere 3072
zero_below false = found_at 3072 0 (omega arith)

kept_when : (w : Bool) → at_zero_unless w ≡ None → w ≡ true
kept_when true e = refl
kept_when false e = absurd (at_is_not_nowhere 0 e)

structure_below : (image : List ℕ) → PlacedBelow 3072 (structure image)
unfolding structure
structure_below image =
    placed_before
    3072
    Directory
    (at_zero_unless (directory_kept image))
    (design_structure (design_of image))
    (zero_below (directory_kept image))
    (λ e.
    let keeps = (directory_iff image).0 (kept_when (directory_kept image) e) in
    let l = label_count image in
    let r = register_count image in
    let s = state_count image in
    let c = command_count image in
    let x = expression_count image in
    design_below
    (design_of image)
    (omega (arith, keeps.sections Labels))
    (omega (arith, keeps.sections Registers))
    (omega (arith, keeps.sections States))
    (omega (arith, keeps.sections Commands))
    (omega (arith, keeps.sections Expressions)))

verdict_below : (image : List ℕ) → PlacedBelow 3072 (verdict image)
unfolding verdict
verdict_below image = placed_both 3072 (structure image) (flow_answer (design_of image)) (structure_below image) (λ n e.
    let accepted = (structure_exact image).0 (e ∙ ap Accepted (structure_counts_nothing image n e)) in
    let commands = command_count image in
    let expressions = expression_count image in
    flow_answer_below (design_of image) (omega (arith, accepted.0.sections Commands)) (omega (arith, accepted.0.sections Expressions)))

pub place_small : (image : List ℕ) {a : Answer} {r : Refusal} {p : ℕ} → a ≡ verdict image → a ≡ Refused r p → p < 3072
place_small image {r = r} {p = p} e h = verdict_below image r p (sym e ∙ h)
