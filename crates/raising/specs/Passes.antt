-- What the passes know of a table of labels, and what each of them leaves of it.
use Rattle.std.specs.Prelude.{ℕ, zero, suc, ◌<◌, ◌≡◌, Bool, false, ◌||◌, not, cond, List, [], ◌∷◌, ◌++◌, eqb, length, get_or, set}
use Rattle.std.specs.Int.Bits.{bit_and}
use Rattle.model.specs.Indices.{lowest}
use Rattle.model.specs.Image.{Design as Table, design_of, command_at}
use Rattle.model.specs.Lattice.{state_label}
use Rattle.model.specs.States.{found_or}
use Rattle.model.specs.Trees.{Expr, Cmd, skip, assign, sequence, fall, goto, branch, cmd_of, body_of}
use Rattle.model.specs.Rules.{Scoped, StructureKeeps}
use Rattle.model.specs.Raising.{join_of, labels_read_by, raised_by, raised_by_states, raised_once}
use Rattle.design.specs.declared.Design.{Design}
use Rattle.design.specs.declared.image.Image.{Image}
use Rattle.design.specs.Kept.{RecordsKept}
use Rattle.design.specs.Labels.{LabelsKept}
use Rattle.design.specs.Scopes.{NoParameters}
use Rattle.checker_records.specs.LabelTests.{least_in}
use Rattle.checker_flow.specs.Masks.{Rows}
use Rattle.checker_flow.specs.Flows.{mask_read, has_bit}

-- the least label of a mask, or 0 where it has none
unfoldable pub least_of : List ℕ → ℕ → ℕ
least_of rows among = found_or 0 (lowest (least_in rows among) (length rows))

-- a table of labels with an entry for each register and no more
pub record Labelling (d : Table) (labels : List ℕ) : Type 0 where
  pub kept : LabelsKept d labels
  pub exact : length labels ≡ length d.registers

-- what is known where labels are raised
pub record Raising (image : List ℕ) (x : Design) (labels : List ℕ) : Type 0 where
  pub known : RecordsKept image x
  pub structured : StructureKeeps (design_of image)
  pub plain : NoParameters (design_of image)
  pub labelling : Labelling (design_of image) labels

-- of a command: it stands in a state and names only what is in its scope
pub record Stands (d : Table) (n : ℕ) : Type 0 where
  pub state : ℕ
  pub exists : state < length d.states
  pub scoped : Scoped d state (cmd_of d n)

-- what is known at a command, with the table of masks
pub record RaisingCommand (image : List ℕ) (x : Design) (masks labels : List ℕ) (n : ℕ) : Type 0 where
  pub raising : Raising image x labels
  pub rows : Rows (design_of image) masks
  pub command : n < x.commands
  pub stands : Stands (design_of image) n

-- and at an assignment
pub record Assigns (image : List ℕ) (x : Design) (n : ℕ) : Type 0 where
  pub command : n < x.commands
  pub kind : (command_at (design_of image) n).kind ≡ 1
  pub stands : Stands (design_of image) n

-- the same, of an `Image`
abbrev pub RaisingIn : Image → List ℕ → Type 0
RaisingIn image labels = Raising image.bytes.now image.design labels

abbrev pub RaisingCommandIn : Image → List ℕ → List ℕ → ℕ → Type 0
RaisingCommandIn image masks labels n = RaisingCommand image.bytes.now image.design masks labels n

abbrev pub AssignsIn : Image → ℕ → Type 0
AssignsIn image n = Assigns image.bytes.now image.design n

-- ---- what is left of a table of labels, and whether one rose
module _ (d : Table) (masks : List ℕ) where
  -- the labels above register r, the context and what an expression reads, as a mask
  abbrev pub above_under : ℕ → ℕ → Expr → List ℕ → ℕ
  above_under context r e labels = bit_and (get_or d.rows (get_or labels r 0) 0) (bit_and context (mask_read labels masks e))

  -- the labels once a command has raised them, in a context that is a mask
  unfoldable pub raised_under : ℕ → Cmd → List ℕ → List ℕ
  raised_under context (skip n) labels = labels
  raised_under context (assign n r e) labels =
      cond (has_bit (above_under context r e labels) (get_or labels r 0)) labels (set labels r (least_of d.rows (above_under context r e labels)))
  raised_under context (sequence n p q) labels = raised_under context q (raised_under context p labels)
  raised_under context (fall n) labels = labels
  raised_under context (goto n t a b) labels = labels
  raised_under context (branch n e p q) labels =
      raised_under (bit_and context (mask_read labels masks e)) q (raised_under (bit_and context (mask_read labels masks e)) p labels)

  -- and whether one of them rose
  unfoldable pub moved_under : ℕ → Cmd → List ℕ → Bool
  moved_under context (skip n) labels = false
  moved_under context (assign n r e) labels = not (has_bit (above_under context r e labels) (get_or labels r 0))
  moved_under context (sequence n p q) labels = moved_under context p labels || moved_under context q (raised_under context p labels)
  moved_under context (fall n) labels = false
  moved_under context (goto n t a b) labels = false
  moved_under context (branch n e p q) labels =
      moved_under (bit_and context (mask_read labels masks e)) p labels
      || moved_under (bit_and context (mask_read labels masks e)) q (raised_under (bit_and context (mask_read labels masks e)) p labels)

module _ (d : Table) where
  -- whether a label rises where a command raises labels in a context (`raised_by`)
  unfoldable pub moved_by : List ℕ → Cmd → List ℕ → Bool
  moved_by context (skip n) labels = false
  moved_by context (assign n r e) labels = not (eqb (join_of d.rows (get_or labels r 0 ∷ (context ++ labels_read_by labels e))) (get_or labels r 0))
  moved_by context (sequence n p q) labels = moved_by context p labels || moved_by context q (raised_by d context p labels)
  moved_by context (fall n) labels = false
  moved_by context (goto n t a b) labels = false
  moved_by context (branch n e p q) labels =
      moved_by (context ++ labels_read_by labels e) p labels
      || moved_by (context ++ labels_read_by labels e) q (raised_by d (context ++ labels_read_by labels e) p labels)

  -- where the bodies of the first n states do, one after the other
  unfoldable pub moved_by_states : ℕ → List ℕ → Bool
  moved_by_states zero labels = false
  moved_by_states (suc s) labels = moved_by_states s labels || moved_by (state_label d s ∷ []) (body_of d s) (raised_by_states d s labels)

  -- in one pass over all bodies
  unfoldable pub moved_once : List ℕ → Bool
  moved_once labels = moved_by_states (length d.states) labels

-- ---- what is left, and whether a label rose, as one
-- by command n in a context that is a mask
pub record RaisedAt (d : Table) (masks : List ℕ) (mask n : ℕ) (old after : List ℕ) (moved : Bool) : Type 0 where
  pub is : after ≡ raised_under d masks mask (cmd_of d n) old
  pub rose : moved ≡ moved_under d masks mask (cmd_of d n) old

-- by the body of state s, whose context is its label
pub record RaisedIn (d : Table) (s : ℕ) (old after : List ℕ) (moved : Bool) : Type 0 where
  pub is : after ≡ raised_by d (state_label d s ∷ []) (body_of d s) old
  pub rose : moved ≡ moved_by d (state_label d s ∷ []) (body_of d s) old

-- by one pass
pub record RaisedOnce (d : Table) (old after : List ℕ) (moved : Bool) : Type 0 where
  pub is : after ≡ raised_once d old
  pub rose : moved ≡ moved_once d old
