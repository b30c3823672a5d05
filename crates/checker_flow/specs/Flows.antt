-- What the pass for refusals 10 to 12 knows at a node, what it gives there, and what the place of a fault says.
use Rattle.std.specs.Prelude.{ℕ, ◌+◌, ◌-◌, ◌/◌, ◌%◌, ◌^◌, ◌<◌, ◌≤◌, ◌≡◌, ◌⊎◌, Bool, cond, List, ltb, eqb, length, get_or}
use Rattle.std.specs.Int.Bits.{bit_and}
use Rattle.model.specs.Answers.{Answer, Accepted, Refused}
use Rattle.model.specs.Limits.{commands_max, parameter_register, parameter_label}
use Rattle.model.specs.Image.{Design as Table, design_of, command_at}
use Rattle.model.specs.Kinds.{command_kind}
use Rattle.model.specs.Lattice.{state_label}
use Rattle.model.specs.Trees.{Expr, constant, register, binary, Cmd, skip, assign, sequence, fall, goto, branch, cmd_of, body_of}
use Rattle.model.specs.Parameters.{scope_of}
use Rattle.model.specs.Labelling.{relabelled}
use Rattle.model.specs.Flow.{named_label, flow_refusal}
use Rattle.model.specs.Rules.{Scoped, Shaped}
use Rattle.design.specs.declared.Design.{Design}
use Rattle.design.specs.declared.image.Image.{Image}
use Rattle.design.specs.Kept.{RecordsKept, ParametersKept}
use Rattle.design.specs.RecordsAt.{CommandAt, ExpressionAt}
use Rattle.design.specs.Labels.{LabelsKept}
use Rattle.design.specs.Scopes.{inherited_scope}
use Rattle.checker_bodies.specs.Places.{place_unless}
use Rattle.checker_flow.specs.Masks.{all_bits, Masks}

-- ---- what the passes before have found of the bodies
pub record BodiesKept (d : Table) : Type 0 where
  pub shaped : (s : ℕ) → s < length d.states → Shaped d s (body_of d s)
  pub scoped : (s : ℕ) → s < length d.states → Scoped d s (body_of d s)

-- of a command of state s
pub record CommandScoped (d : Table) (s n : ℕ) : Type 0 where
  pub shaped : Shaped d s (cmd_of d n)
  pub scoped : Scoped d s (cmd_of d n)

-- a register, or a parameter in scope of state s
pub record Named (d : Table) (s r : ℕ) : Type 0 where
  pub is : (r < length d.registers) ⊎ ((parameter_register ≤ r) × (r - parameter_register < length (scope_of d s)))

-- ---- labels
-- a table of labels has an entry for a register byte that names no parameter
pub record Entered (labels : List ℕ) (r : ℕ) : Type 0 where
  pub inside : r < parameter_register → r < length labels

-- the label byte of what a register byte names, by a table of labels
unfoldable pub label_in : List ℕ → ℕ → ℕ
label_in labels r = cond (ltb r parameter_register) (get_or labels r 0) (parameter_label + (r - parameter_register))

-- ---- answers
-- what the place of a flow fault says
unfoldable pub answer_among : Table → ℕ → Answer
answer_among d place = cond (ltb place (length d.commands)) (Refused (flow_refusal (command_kind (command_at d place).kind)) place) (Accepted 0)

-- ---- what the recursion gives
-- the mask of what an expression reads, by a table of labels and a table of masks; what reads nothing flows everywhere
module _ (labels masks : List ℕ) where
  unfoldable pub mask_read : Expr → ℕ
  mask_read (constant v) = all_bits
  mask_read (register n r) = get_or masks (label_in labels r) 0
  mask_read (binary o p q) = bit_and (mask_read p) (mask_read q)

-- bit l of a mask
abbrev pub has_bit : ℕ → ℕ → Bool
has_bit mask l = eqb (mask / 2 ^ l % 2) 1

-- the first of two places: the second counts where the first is none
abbrev pub first_place : ℕ → ℕ → ℕ
first_place p q = cond (ltb p commands_max) p q

-- the place of assignment n, unless a context that is a mask and what it reads flow to what it writes
unfoldable pub assign_place : List ℕ → List ℕ → ℕ → ℕ → ℕ → Expr → ℕ
assign_place labels masks context n r e = place_unless (has_bit (bit_and context (mask_read labels masks e)) (label_in labels r)) n

-- the place of the first fault of a command of state s, in a context that is a mask
module _ (d : Table) (labels masks : List ℕ) (s : ℕ) where
  unfoldable pub flow_place : ℕ → Cmd → ℕ
  flow_place context (skip n) = commands_max
  flow_place context (assign n r e) = assign_place labels masks context n r e
  flow_place context (sequence n p q) = first_place (flow_place context p) (flow_place context q)
  flow_place context (fall n) = place_unless (has_bit context (state_label d s)) n
  flow_place context (goto n t a b) = place_unless (has_bit context (named_label (relabelled d labels) t a b)) n
  flow_place context (branch n e p q) =
      first_place (flow_place (bit_and context (mask_read labels masks e)) p) (flow_place (bit_and context (mask_read labels masks e)) q)

-- ---- what is known where bodies are read under tables of labels and of masks
-- the labels that expression e reads are gathered
pub record Gathering (image labels : List ℕ) (x : Design) (e : ℕ) : Type 0 where
  pub known : RecordsKept image x
  pub labelling : LabelsKept (design_of image) labels
  pub expression : ExpressionAt image x x.expressions_at e

-- an assignment n is judged
pub record Assigning (image labels : List ℕ) (x : Design) (n : ℕ) : Type 0 where
  pub known : RecordsKept image x
  pub labelling : LabelsKept (design_of image) labels
  pub command : CommandAt image x x.commands_at n
  pub kind : (command_at (design_of image) n).kind ≡ 1

-- a command n of state s is judged; the label bytes from `own` on are a named state's own parameters
pub record Flowing (image labels masks : List ℕ) (x : Design) (s own n : ℕ) : Type 0 where
  pub known : RecordsKept image x
  pub labelling : LabelsKept (design_of image) labels
  pub parameters : ParametersKept (design_of image)
  pub table : Masks (design_of image) s masks
  pub state : s < x.states
  pub own_from : own ≡ parameter_label + length (inherited_scope (design_of image) s)
  pub command : CommandAt image x x.commands_at n
  pub scoped : CommandScoped (design_of image) s n

-- the label of the state that goto n of state s names is asked for
pub record Going (image labels : List ℕ) (x : Design) (own n : ℕ) : Type 0 where
  pub s : ℕ
  pub known : RecordsKept image x
  pub labelling : LabelsKept (design_of image) labels
  pub parameters : ParametersKept (design_of image)
  pub state : s < x.states
  pub own_from : own ≡ parameter_label + length (inherited_scope (design_of image) s)
  pub command : CommandAt image x x.commands_at n
  pub kind : (command_at (design_of image) n).kind ≡ 4
  pub scoped : CommandScoped (design_of image) s n

-- ---- the same, of an `Image`
abbrev pub GatheringIn : Image → List ℕ → ℕ → Type 0
GatheringIn image labels e = Gathering image.bytes.now labels image.design e

abbrev pub AssigningIn : Image → List ℕ → ℕ → Type 0
AssigningIn image labels n = Assigning image.bytes.now labels image.design n

abbrev pub FlowingIn : Image → List ℕ → List ℕ → ℕ → ℕ → ℕ → Type 0
FlowingIn image labels masks s own n = Flowing image.bytes.now labels masks image.design s own n

abbrev pub GoingIn : Image → List ℕ → ℕ → ℕ → Type 0
GoingIn image labels own n = Going image.bytes.now labels image.design own n
