-- 02, E6, 'Raise the labels for me': what a raising of an image is, how the least one is computed, and the call.
use Rattle.std.specs.Prelude.{ℕ, zero, suc, ◌+◌, ◌*◌, ◌<◌, ◌≡◌, Bool, true, false, ◌&&◌, not, List, [], ◌∷◌, ◌++◌, map, eqb, length, get_or, set, Err}
use Rattle.model.specs.declared.Refusal.TheVariants.{Area, NoRaising, RaiseParameters}
use Rattle.model.specs.Answers.{Answer, Accepted}
use Rattle.model.specs.Limits.{register_length}
use Rattle.model.specs.Indices.{all_below, lowest}
use Rattle.model.specs.Image.{Registers, byte_at, offset, Design, design_of, register_at}
use Rattle.model.specs.Lattice.{flows_to, implies, all_flow_to, register_label, state_label}
use Rattle.model.specs.States.{found_or}
use Rattle.model.specs.Trees.{Expr, Cmd, skip, assign, sequence, fall, goto, branch, body_of, registers_read}
use Rattle.model.specs.Labelling.{labels_of}
use Rattle.model.specs.Parameters.{has_parameters}
use Rattle.model.specs.Rules.{FlowsTo, Keeps}
use Rattle.model.specs.Verdict.{◌before◌, refused_at, at_zero_unless, structure, verdict}
use Rattle.model.specs.Calls.{Left, leaves}

-- ---- what a raising is
-- byte i of an image is the label of an inner register
pub record IsInnerLabel (image : List ℕ) (i : ℕ) : Type 0 where
  pub register : ℕ
  pub exists : register < length (design_of image).registers
  pub inner : (register_at (design_of image) register).kind ≡ 0
  pub place : i ≡ offset image Registers + register_length * register

-- "the same image with inner register labels raised, never lowered"; "Port and state labels are fixed."
pub record Raises (image raised : List ℕ) : Type 0 where
  pub same_length : length raised ≡ length image
  pub elsewhere : (i : ℕ) → (IsInnerLabel image i → ⊥) → byte_at raised i ≡ byte_at image i
  pub above : (r : ℕ) → r < length (design_of image).registers → FlowsTo (design_of image).rows (register_label (design_of image) r) (register_label (design_of raised) r)

-- "so that the whole is accepted"
pub record AcceptedRaising (image raised : List ℕ) : Type 0 where
  pub raises : Raises image raised
  pub keeps : Keeps raised

-- "The result is the least: every accepted raising gives each register a label at or above ours."
pub record LeastRaising (image raised : List ℕ) : Type 0 where
  pub accepted : AcceptedRaising image raised
  pub least : (other : List ℕ) → AcceptedRaising image other → (r : ℕ) → r < length (design_of image).registers
      → FlowsTo (design_of image).rows (register_label (design_of raised) r) (register_label (design_of other) r)

-- ---- how it is computed
-- k is above every label of a list, and below whatever else is
unfoldable pub least_above_all : List ℕ → List ℕ → ℕ → Bool
least_above_all rows labels k = all_flow_to rows labels k && all_below (λ m. implies (all_flow_to rows labels m) (flows_to rows k m)) (length rows)

-- the least label above those of a list; in a lattice there is one
unfoldable pub join_of : List ℕ → List ℕ → ℕ
join_of rows labels = found_or 0 (lowest (least_above_all rows labels) (length rows))

-- the labels of the registers that an expression reads, where register r has label r of a list
unfoldable pub labels_read_by : List ℕ → Expr → List ℕ
labels_read_by labels e = map (λ r. get_or labels r 0) (registers_read e)

module _ (d : Design) where
  -- The labels of the registers once a command in a context has raised them: each register that is assigned to, which refusal 16 has left to be an inner one,
  -- to the least label above itself, the context and what is read.
  unfoldable pub raised_by : List ℕ → Cmd → List ℕ → List ℕ
  raised_by context (skip n) labels = labels
  raised_by context (assign n r e) labels = set labels r (join_of d.rows (get_or labels r 0 ∷ (context ++ labels_read_by labels e)))
  raised_by context (sequence n p q) labels = raised_by context q (raised_by context p labels)
  raised_by context (fall n) labels = labels
  raised_by context (goto n t a b) labels = labels
  raised_by context (branch n e p q) labels = let inner = context ++ labels_read_by labels e in raised_by inner q (raised_by inner p labels)

  -- the same by the bodies of the first n states, one after the other
  unfoldable pub raised_by_states : ℕ → List ℕ → List ℕ
  raised_by_states zero labels = labels
  raised_by_states (suc s) labels = raised_by (state_label d s ∷ []) (body_of d s) (raised_by_states s labels)

  -- one pass over all bodies
  unfoldable pub raised_once : List ℕ → List ℕ
  raised_once labels = raised_by_states (length d.states) labels

  -- n passes
  unfoldable pub raised_times : ℕ → List ℕ → List ℕ
  raised_times zero labels = labels
  raised_times (suc n) labels = raised_times n (raised_once labels)

  -- Passes until nothing moves: a pass that moves anything raises a register, and no register rises as often as there are labels.
  unfoldable pub raised_labels : List ℕ
  raised_labels = raised_times (length d.registers * length d.rows) (labels_of d)

-- bytes with labels in the records of the registers, of which the first stands at a place
unfoldable pub put_labels : ℕ → List ℕ → List ℕ → List ℕ
put_labels place [] bytes = bytes
put_labels place (label ∷ labels) bytes = put_labels (place + register_length) labels (set bytes place label)

-- "the same image with inner register labels raised"
unfoldable pub raised_image : List ℕ → List ℕ
raised_image image = put_labels (offset image Registers) (raised_labels (design_of image)) image

-- ---- the call
abbrev pub accepts : Answer → Bool
accepts (Accepted count) = true
accepts (Err why) = false

-- The image is only read; what is lent to be written is a second area.
module _ (image out : List ℕ) where
  -- "Given an image that passes all checks up to 9, 16 included"; "An output area not as long as the image is refusal 14, judged after the image checks. It
  -- refuses with 18, place 0 and after 14, exactly if no accepted raising exists." 02, E8: "raising refuses with 20, place 0, after its image checks and before
  -- 14, an image that has parameters"
  unfoldable pub raise_answer : Answer
  raise_answer =
      structure image
      before refused_at RaiseParameters (at_zero_unless (not (has_parameters (design_of image))))
      before refused_at Area (at_zero_unless (eqb (length out) (length image)))
      before refused_at NoRaising (at_zero_unless (accepts (verdict (raised_image image))))

  unfoldable pub raise : Left (List ℕ)
  raise = leaves raise_answer out (raised_image image)
