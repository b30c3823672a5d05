-- The least label of a mask is the join of the labels whose mask it is: one label is the least of both by the same two tests, bit by bit.
use Rattle.std.specs.Prelude.{Option, Some, None, unwrap_or}
use Prim.Native.Nat.{ℕ, zero, suc, ◌^◌, ◌≤◌, ◌<◌}
use mathlib.Core.Path.{◌≡◌, refl, sym, ◌∙◌, ap, ap₂}
use mathlib.Core.Logic.{◌⊎◌, inl, inr}
use mathlib.Core.Bool.{Bool, true, false, ◌&&◌, not, cond}
use mathlib.Core.List.{List, ◌∷◌}
use native.Mathlib.Omega.{arith}
use lib.Dec.{eqb}
use lib.ListN.{length, get_or, set}
use lib.Seq.{set-get_or}
use borrow.Author.Tests.{eq-eqb, ne_eqb}
use Rattle.model.specs.Image.{design_of}
use Rattle.model.specs.Indices.{lowest}
use Rattle.model.specs.Lattice.{flows_to, implies, all_flow_to}
use Rattle.model.specs.States.{found_or}
use Rattle.model.specs.Raising.{least_above_all, join_of}
use Rattle.model.specs.Rules.{FlowsTo, IsLattice}
use Rattle.model.proofs.Laws.Booleans.{decide, true_or_false}
use Rattle.model.proofs.Laws.Joins.{LeastAboveAll, flow_tail, join_stays}
use Rattle.model.proofs.Laws.Indices.{lowest_at}
use Rattle.design.specs.declared.Design.{Design}
use Rattle.design.specs.Describes.{Describes}
use Rattle.design.proofs.Laws.{labels_count, labels_most}
use Rattle.checker_records.specs.LabelTests.{least_in}
use Rattle.checker_records.proofs.Subsets.{bit_of, inside}
use Rattle.checker_records.proofs.LatticeRules.{all_same}
use Rattle.checker_flow.specs.Flows.{has_bit}
use Rattle.raising.specs.Passes.{least_of}

-- a context of labels as a mask: without parameters all label bytes are labels
pub record RowMask (rows context : List ℕ) (mask : ℕ) : Type 0 where
  pub bits : (l : ℕ) → l < length rows → has_bit mask l ≡ all_flow_to rows context l

-- tests that agree below n find the same there
lowest_same : (p q : ℕ → Bool) (n : ℕ) → ((k : ℕ) → k < n → p k ≡ q k) → lowest p n ≡ lowest q n
unfolding lowest
lowest_same p q zero h = refl
lowest_same p q (suc n) h = rw (lowest_same p q n (λ k l. h k (omega arith)), h n (omega arith))

module _ (rows labels : List ℕ) (among : ℕ) (mask : RowMask rows labels among) (small : among < 2 ^ length rows) where
  least_same : (k : ℕ) → k < length rows → least_in rows among k ≡ least_above_all rows labels k
  unfolding least_in least_above_all flows_to
  least_same k l =
      ap₂
      (λ (c d : Bool). c && d)
      (mask.bits k l)
      (inside among (get_or rows k 0) (length rows) small
      ∙ all_same _ _ (length rows) (λ m h. ap (λ (c : Bool). implies c (bit_of (get_or rows k 0) m)) (mask.bits m h)))

  pub least_is_join : least_of rows among ≡ join_of rows labels
  unfolding least_of join_of
  least_is_join = ap (found_or 0) (lowest_same (least_in rows among) (least_above_all rows labels) (length rows) least_same)

-- ---- an assignment: its register stays exactly where the mask has the bit of its label
module _
    (rows : List ℕ)
    (lattice : IsLattice rows)
    (rest : List ℕ)
    (l above : ℕ)
    (below : l < length rows)
    (mask : RowMask rows (l ∷ rest) above)
    (small : above < 2 ^ length rows)
    (join : LeastAboveAll rows (l ∷ rest) (join_of rows (l ∷ rest)))
  where
    stays : has_bit above l ≡ true → join_of rows (l ∷ rest) ≡ l
    stays h = join_stays rows lattice rest l below (flow_tail rows l rest l (sym (mask.bits l below) ∙ h))

    differs : has_bit above l ≡ false → join_of rows (l ∷ rest) ≡ l → ⊥
    differs h e =
        let flows : FlowsTo rows (join_of rows (l ∷ rest)) l = rw e (lattice.reflexive l below) in
        true_or_false (has_bit above l) (mask.bits l below ∙ (join.exactly l below).1 flows) h

    pub assigned_same : (labels : List ℕ) (r : ℕ) → get_or labels r 0 ≡ l → cond (has_bit above l) labels (set labels r (least_of rows above)) ≡ set labels r (join_of rows (l ∷ rest))
    assigned_same labels r e = go (has_bit above l) refl
      where
        go : (b : Bool) → has_bit above l ≡ b → cond b labels (set labels r (least_of rows above)) ≡ set labels r (join_of rows (l ∷ rest))
        go true h = sym (ap (set labels r) (stays h ∙ sym e) ∙ set-get_or labels r 0)
        go false h = ap (set labels r) (least_is_join rows (l ∷ rest) above mask small)

    pub moved_same : not (has_bit above l) ≡ not (eqb (join_of rows (l ∷ rest)) l)
    moved_same = go (decide (has_bit above l))
      where
        go : (has_bit above l ≡ true) ⊎ (has_bit above l ≡ false) → not (has_bit above l) ≡ not (eqb (join_of rows (l ∷ rest)) l)
        go (inl h) = ap not (h ∙ sym (eq-eqb (join_of rows (l ∷ rest)) l (stays h)))
        go (inr h) = ap not (h ∙ sym (ne_eqb (join_of rows (l ∷ rest)) l (differs h)))

-- ---- the label that a search finds
module _ (rows : List ℕ) (among : ℕ) where
  pub least_searched : {m r : ℕ} (found : Option ℕ) → r ≡ unwrap_or found 0 → found ≡ lowest (least_in rows among) m → m ≡ length rows → r ≡ least_of rows among
  unfolding least_of
  least_searched found e is count = e ∙ unwrapped found ∙ ap (found_or 0) (is ∙ ap (lowest (least_in rows among)) count)
    where
      unwrapped : (f : Option ℕ) → unwrap_or f 0 ≡ found_or 0 f
      unwrapped (Some i) = refl
      unwrapped None = refl

  -- it is a label, where there are any
  pub least_label_lem : 0 < length rows → least_of rows among < length rows
  unfolding least_of
  least_label_lem some = go (lowest (least_in rows among) (length rows)) refl
    where
      go : (found : Option ℕ) → lowest (least_in rows among) (length rows) ≡ found → found_or 0 (lowest (least_in rows among) (length rows)) < length rows
      go (Some i) is = rw is (lowest_at (least_in rows among) (length rows) i is).below
      go None is = rw is some

-- and a byte
pub least_fits : {image : List ℕ} {x : Design} {r : ℕ} (among : ℕ) → Describes image x → r ≡ least_of (design_of image).rows among → r < 256
unfolding least_of
least_fits {image} {x} among d e =
    let most = labels_most d in
    let count = labels_count d in
    rw e (go (lowest (least_in rows among) (length rows)) refl (omega arith))
  where
    rows : List ℕ
    rows = (design_of image).rows

    go : (found : Option ℕ) → lowest (least_in rows among) (length rows) ≡ found → length rows ≤ 16 → found_or 0 found < 256
    go (Some i) is few = omega (arith, (lowest_at (least_in rows among) (length rows) i is).below)
    go None is few = omega arith
