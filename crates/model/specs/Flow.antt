-- 01, 'Shape and flow', the flow rules: refusals 10 to 12, in one pass; since 02, E7, in the order in which the bodies are read.
use Rattle.std.specs.Prelude.{ℕ, ◌+◌, Bool, true, false, cond, List, [], ◌∷◌, ◌++◌, map, ltb, eqb, length}
use Rattle.model.specs.declared.Refusal.{Refusal}
use Rattle.model.specs.declared.Refusal.TheVariants.{AssignFlow, GotoFlow, FallFlow}
use Rattle.model.specs.Answers.{Answer, Accepted, Refused}
use Rattle.model.specs.Indices.{join_below}
use Rattle.model.specs.Image.{Design}
use Rattle.model.specs.Limits.{parameter_label}
use Rattle.model.specs.Lattice.{all_flow_to, state_label}
use Rattle.model.specs.States.{parent}
use Rattle.model.specs.Parameters.{scope_of, every_choice, label_byte, label_under}
use Rattle.model.specs.Kinds.{CommandKind, skips, assigns, sequences, falls, goes, branches, unknown_command}
use Rattle.model.specs.Trees.{Expr, Cmd, skip, assign, sequence, fall, goto, branch, body_of, registers_read}

-- the refusal at a node, unless its rule holds
abbrev pub refused_unless : Bool → Refusal → ℕ → List Answer
refused_unless true refusal n = []
refused_unless false refusal n = Refused refusal n ∷ []

module _ (d : Design) where
  -- the label bytes of the registers that an expression reads
  unfoldable pub labels_read : Expr → List ℕ
  labels_read e = map (label_byte d) (registers_read e)

  -- The label byte of the state that a goto names, as the goto's state has it. A parameter that t did not declare is one of the parent's and has the same number
  -- in each of its children. "Where the named state's label is its own parameter's, the goto rule takes the argument's label."
  unfoldable pub named_label : ℕ → ℕ → ℕ → ℕ
  named_label t a b =
      let inherited = parameter_label + length (scope_of d (parent d t)) in
      cond (ltb (state_label d t) inherited) (state_label d t) (label_byte d (cond (eqb (state_label d t) inherited) a b))

  module _ (s : ℕ) where
    -- all of a list of label bytes flow to a label byte. 02, E8: "A body passes if it keeps every rule for each choice of labels within the bounds in scope"
    unfoldable pub flows_each : List ℕ → ℕ → Bool
    flows_each from to = every_choice d s (λ choice. all_flow_to d.rows (map (label_under choice) from) (label_under choice to))

    -- "Assign: the context and each register read flow to the label written."
    abbrev pub assign_flows : List ℕ → ℕ → Expr → Bool
    assign_flows context r e = flows_each (context ++ labels_read e) (label_byte d r)

    -- "Goto: the context flows to the named state's label."
    abbrev pub goto_flows : List ℕ → ℕ → ℕ → ℕ → Bool
    goto_flows context t a b = flows_each context (named_label t a b)

    -- "Fall: the context flows to the own state's label."
    abbrev pub fall_flows : List ℕ → Bool
    fall_flows context = flows_each context (state_label d s)

  -- Every flow fault of a command of state s, in the order in which the body is written: a sequence's first part before its second, "an if's first branch
  -- before its second" (02, E7). 01: "The context of a node is its state's label and the
  -- labels of all registers read in the conditions of the ifs around it."
  module _ (s : ℕ) where
    unfoldable pub flow_faults : List ℕ → Cmd → List Answer
    flow_faults context (skip n) = []
    flow_faults context (assign n r e) = refused_unless (assign_flows s context r e) AssignFlow n
    flow_faults context (sequence n p q) = flow_faults context p ++ flow_faults context q
    flow_faults context (fall n) = refused_unless (fall_flows s context) FallFlow n
    flow_faults context (goto n t a b) = refused_unless (goto_flows s context t a b) GotoFlow n
    flow_faults context (branch n e p q) = flow_faults (context ++ labels_read e) p ++ flow_faults (context ++ labels_read e) q

    -- those of the whole body, whose context is the state's label
    unfoldable pub state_flow_faults : List Answer
    state_flow_faults = flow_faults (state_label d s ∷ []) (body_of d s)

-- the flow rule that a command of each kind may break; skips, sequences and ifs have none of their own
unfoldable pub flow_refusal : CommandKind → Refusal
flow_refusal skips = FallFlow
flow_refusal assigns = AssignFlow
flow_refusal sequences = FallFlow
flow_refusal falls = FallFlow
flow_refusal goes = GotoFlow
flow_refusal branches = FallFlow
flow_refusal unknown_command = FallFlow

-- 02, E7: "the one shown first is now in the lowest-numbered state, and within it the first command in the order it is written". 01 had the lowest node.
-- The faults are listed in this order.
unfoldable pub first_of : List Answer → Answer
first_of [] = Accepted 0
first_of (answer ∷ more) = answer

unfoldable pub flow_answer : Design → Answer
flow_answer d = first_of (join_below (state_flow_faults d) (length d.states))
