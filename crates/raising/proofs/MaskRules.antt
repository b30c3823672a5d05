-- Masks where no state has a parameter: a label byte is a label, so the masks of the flow check are masks of label rows.
use Prim.Native.Nat.{ℕ, ◌/◌, ◌%◌, ◌^◌, ◌<◌}
use mathlib.Core.Path.{◌≡◌, refl, sym, ◌∙◌, ap}
use mathlib.Core.Bool.{Bool, true, false, ◌&&◌}
use mathlib.Core.List.{List, [], ◌∷◌, ◌++◌}
use native.Mathlib.Omega.{arith}
use native.Mathlib.Decide.{dec_lt}
use lib.Bits.{bit_and}
use lib.Dec.{eqb}
use lib.ListN.{length, get_or, get_or-eq_default}
use Rattle.model.specs.Image.{design_of}
use Rattle.model.specs.Lattice.{flows_to, all_flow_to}
use Rattle.model.specs.Trees.{expr_of}
use Rattle.model.specs.Flow.{flows_each}
use Rattle.model.specs.Rules.{ReadsScoped}
use Rattle.model.specs.Raising.{labels_read_by}
use Rattle.model.proofs.Laws.Bits.{bit_and_lem}
use Rattle.model.proofs.Laws.Plain.{PlainLabels, plain_labels, plain_scope, plain_each}
use Rattle.model.proofs.Laws.Relabelling.{Labelled, labels_read_lem}
use Rattle.model.proofs.Raising.Orders.{reads_labels}
use Rattle.model.proofs.Raising.Passes.{Raisable}
use Rattle.design.specs.declared.Design.{Design}
use Rattle.design.proofs.Laws.{states_count}
use Rattle.design.proofs.BoundRules.{labels_few, plain_label_byte}
use Rattle.checker_flow.specs.Masks.{Rows}
use Rattle.checker_flow.specs.Flows.{mask_read, Gathering}
use Rattle.checker_flow.proofs.FlowRules.{read_is_mask}
use Rattle.checker_flow.proofs.TableRules.{label_some, rows_masks}
use Rattle.checker.proofs.Accepted.{structure_parameters}
use Rattle.raising.specs.Passes.{Raising}
use Rattle.raising.proofs.JoinRules.{RowMask}

-- ---- contexts
and_assoc : (a b c : Bool) → (a && (b && c)) ≡ (a && b && c)
and_assoc true b c = refl
and_assoc false b c = refl

and_true : (a : Bool) → a ≡ (a && true)
and_true true = refl
and_true false = refl

all_flow_both : (rows xs ys : List ℕ) (l : ℕ) → all_flow_to rows (xs ++ ys) l ≡ (all_flow_to rows xs l && all_flow_to rows ys l)
unfolding all_flow_to
all_flow_both rows [] ys l = refl
all_flow_both rows (x ∷ xs) ys l = ap (λ (b : Bool). flows_to rows x l && b) (all_flow_both rows xs ys l) ∙ and_assoc (flows_to rows x l) (all_flow_to rows xs l) (all_flow_to rows ys l)

-- the mask of two contexts together
pub mask_both : {rows xs ys : List ℕ} {p q : ℕ} → RowMask rows xs p → RowMask rows ys q → RowMask rows (xs ++ ys) (bit_and p q)
mask_both {rows} {xs} {ys} {p} {q} a b = record { bits = λ l h. bit_and_lem p q l ∙ rw (a.bits l h, b.bits l h) (sym (all_flow_both rows xs ys l)) }

-- the mask of one label is its row
pub mask_row : {rows : List ℕ} {l m : ℕ} → m ≡ get_or rows l 0 → RowMask rows (l ∷ []) m
unfolding all_flow_to flows_to
mask_row {rows} {l} row = record { bits = λ b h. rw row (and_true (eqb (get_or rows l 0 / 2 ^ b % 2) 1)) }

-- ---- what is read
module _ {image labels : List ℕ} {x : Design} (here : Raising image x labels) where
  pub plain_here : PlainLabels (design_of image)
  plain_here = plain_labels (design_of image) here.plain.none here.structured (label_some here.known) (labels_few here.known.describes)

  -- past the last register there is label 0
  pub labelled_here : Labelled (design_of image) labels
  labelled_here = record { enough = here.labelling.exact; valid = λ r. go r (dec_lt r (length labels)) }
    where
      go : (r : ℕ) → Dec (r < length labels) → get_or labels r 0 < length (design_of image).rows
      go r (yes l) = let exact = here.labelling.exact in here.labelling.kept.inside r (omega arith)
      go r (no l) = rw (get_or-eq_default labels 0 {n = r} (omega arith)) (label_some here.known)

  -- passes may raise
  pub able_here : Raisable (design_of image)
  able_here = record { keeps = here.structured; some = label_some here.known; few = labels_few here.known.describes; plain = here.plain.none }

  -- the labels read, under the table
  pub read_mask : {masks : List ℕ} {s : ℕ} (e : ℕ) → Gathering image labels x e → Rows (design_of image) masks → s < length (design_of image).states → ReadsScoped (design_of image) s (expr_of (design_of image) e)
      → RowMask (design_of image).rows (labels_read_by labels (expr_of (design_of image) e)) (mask_read labels masks (expr_of (design_of image) e))
  read_mask {s = s} e gathers rows l scoped =
      let d = design_of image in
      let count = states_count here.known.describes in
      let tree = expr_of d e in
      let table = rows_masks here.known rows (structure_parameters here.structured) (omega arith) (ap length (plain_scope d here.plain.none s)) in
      let mask = read_is_mask labels table e gathers scoped in
      let same = labels_read_lem d labels here.labelling.exact here.plain.none s tree scoped in
      record {
        bits = λ l h.
            mask.bits l (plain_label_byte h)
            ∙ ap (λ (from : List ℕ). flows_each d s from l) same
            ∙ plain_each d plain_here s (labels_read_by labels tree) l (reads_labels d labels labelled_here tree) h;
      }
