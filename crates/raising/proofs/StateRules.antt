-- The bodies of the states, one after the other, and the passes: the table is handed on as the meaning has it.
use Prim.Native.Nat.{ℕ, suc, ◌+◌, ◌-◌, ◌*◌, ◌≤◌, ◌<◌}
use mathlib.Core.Path.{◌≡◌, refl, sym, ◌∙◌, ap, ap₂}
use mathlib.Core.Bool.{Bool, true, false, ◌||◌, not}
use mathlib.Core.List.{List, [], ◌∷◌}
use native.Mathlib.Omega.{arith}
use native.Mathlib.Numerals.{add-one}
use lib.ListN.{length}
use Rattle.model.specs.Image.{Design as Table, State, design_of}
use Rattle.model.specs.Lattice.{state_label}
use Rattle.model.specs.Trees.{Cmd, cmd_of, body_of}
use Rattle.model.specs.Raising.{raised_by, raised_by_states, raised_once, raised_times}
use Rattle.model.proofs.Laws.Booleans.{not_true}
use Rattle.model.proofs.Raising.Settled.{raised_stays}
use Rattle.design.specs.declared.Design.{Design}
use Rattle.design.specs.Records.{row_in, row_end, state_in}
use Rattle.design.proofs.Laws.{labels_count, registers_count, states_count, row_inside_lem, row_in_lem, state_in_lem}
use Rattle.design.proofs.FieldRules.{body_is, body_below}
use Rattle.checker_flow.specs.Masks.{Rows}
use Rattle.raising.specs.Passes.{Labelling, Raising, RaisingCommand, moved_by, moved_by_states, moved_once, RaisedAt, RaisedIn, RaisedOnce}
use Rattle.raising.proofs.JoinRules.{RowMask}
use Rattle.raising.proofs.MaskRules.{mask_row, plain_here, labelled_here, able_here}
use Rattle.raising.proofs.PassRules.{labelling_of}
use Rattle.model.proofs.Laws.Joins.{AreLabels}
use Rattle.model.proofs.Raising.Passes.{raised_states, raised_once_lem}
use Rattle.raising.proofs.AgreeRules.{still_once, agrees}

-- ---- the body of a state, whose context is its label
module _ {image labels : List ℕ} {x : Design} {s : ℕ} (here : Raising image x labels) (l : s < x.states) where
  state_label_is : {k : ℕ} → k ≡ (state_in image x.states_at s).label → k ≡ state_label (design_of image) s
  state_label_is e = e ∙ ap (λ (y : State). y.label) (state_in_lem here.known.describes l)

  pub state_row_inside : {k : ℕ} → k ≡ (state_in image x.states_at s).label → k < x.labels
  state_row_inside e =
      let count = labels_count here.known.describes in
      let below = (plain_here here).states s in
      rw (state_label_is e) (omega arith)

  pub state_raising : {masks : List ℕ} {n : ℕ} → Rows (design_of image) masks → n ≡ (state_in image x.states_at s).command → RaisingCommand image x masks labels n
  unfolding body_of
  state_raising rows e =
      let count = states_count here.known.describes in
      record {
        raising = here;
        rows = rows;
        command = body_below here.known.describes l e here.known.states;
        stands = record { state = s; exists = omega arith; scoped = rw (body_is here.known.describes l e) (here.structured.scoped s (omega arith)) };
      }

pub state_raises :
    {image masks labels after : List ℕ} {x : Design} {s n label mask : ℕ} {moved : Bool}
    → RaisedAt (design_of image) masks mask n labels after moved
    → mask ≡ row_in image label
    → label ≡ (state_in image x.states_at s).label
    → n ≡ (state_in image x.states_at s).command
    → s < x.states
    → Raising image x labels
    → Rows (design_of image) masks
    → RaisedIn (design_of image) s labels after moved
unfolding body_of
state_raises {image} {masks} {labels} {x = x} {s} {n} {label} {mask} raised row fl fn l here rows =
    let d = design_of image in
    let known = here.known in
    let is = state_label_is here l fl in
    let count = labels_count known.describes in
    let below = (plain_here here).states s in
    let context = state_label d s ∷ [] in
    let around : RowMask d.rows context mask = rw is at (mask_row {rows = d.rows} {l = label} (row ∙ row_in_lem known.describes (omega arith))) in
    let valid : AreLabels d.rows context = (below, tt) in
    let same = agrees (state_raising here l rows fn) in
    let body : cmd_of d n ≡ body_of d s = ap (cmd_of d) (body_is known.describes l fn) in
    record {
      is = raised.is ∙ same.raised context mask around valid ∙ ap (λ (c : Cmd). raised_by d context c labels) body;
      rose = raised.rose ∙ same.moved context mask around valid ∙ ap (λ (c : Cmd). moved_by d context c labels) body;
    }

-- ---- one pass: the bodies of the first s states
pub record OnceSo (d : Table) (start : List ℕ) (s : ℕ) (now : List ℕ) (moved : Bool) : Type 0 where
  pub is : now ≡ raised_by_states d s start
  pub rose : moved ≡ moved_by_states d s start

module _ (d : Table) {start : List ℕ} where
  pub once_none : OnceSo d start 0 start false
  unfolding raised_by_states moved_by_states
  once_none = record { is = refl; rose = refl }

  pub once_more : {s : ℕ} {now after : List ℕ} {p q : Bool} → RaisedIn d s now after q → OnceSo d start s now p → OnceSo d start (s + 1) after (p || q)
  unfolding raised_by_states moved_by_states
  once_more {s} to so =
      let context = state_label d s ∷ [] in
      record {
        is = to.is ∙ rw (add-one s, ← so.is) refl;
        rose = ap₂ ◌||◌ so.rose (to.rose ∙ ap (moved_by d context (body_of d s)) so.is) ∙ rw (add-one s) refl;
      }

  pub once_all : {s m : ℕ} {now : List ℕ} {p : Bool} → OnceSo d start s now p → s ≤ m → m ≤ s → m ≡ length d.states → RaisedOnce d start now p
  unfolding raised_once moved_once
  once_all {s} {m} so l h e = let same : s ≡ length d.states = omega arith in record { is = rw (← same) so.is; rose = rw (← same) so.rose }

-- what is known after the bodies so far, and after a pass
pub raising_so : {image start now : List ℕ} {x : Design} {s : ℕ} {moved : Bool} → OnceSo (design_of image) start s now moved → Raising image x start → Raising image x now
raising_so {image} {start} {s = s} so here =
    let own = (raised_states (design_of image) (able_here here) s start (labelled_here here)).valid in
    record { known = here.known; structured = here.structured; plain = here.plain; labelling = rw so.is (labelling_of own) }

once_labelling : {image start after : List ℕ} {x : Design} {moved : Bool} → RaisedOnce (design_of image) start after moved → Raising image x start → Labelling (design_of image) after
once_labelling {image} {start} to here = rw to.is (labelling_of (raised_once_lem (design_of image) (able_here here) start (labelled_here here)).valid)

-- ---- passes: with those that are left the whole comes out
pub record TimesSo (d : Table) (start : List ℕ) (most i : ℕ) (now : List ℕ) : Type 0 where
  pub labelling : Labelling d now
  pub left : raised_times d (most - i) now ≡ raised_times d most start

module _ {d : Table} {start : List ℕ} {most : ℕ} where
  pub times_none : Labelling d start → TimesSo d start most 0 start
  times_none own = record { labelling = own; left = let all : most - 0 ≡ most = omega arith in rw all refl }

  pub times_still : {i n : ℕ} {now after : List ℕ} {moved : Bool} → RaisedOnce d now after moved → not moved ≡ true → TimesSo d start most i now → most ≡ n → after ≡ raised_times d n start
  times_still {i} {now = now} {moved = moved} to h so e =
      let stays = still_once d now (sym to.rose ∙ not_true moved h) in
      to.is ∙ stays ∙ sym (raised_stays d now (most - i) stays) ∙ so.left ∙ ap (λ (n : ℕ). raised_times d n start) e

  pub times_all : {i n : ℕ} {now : List ℕ} → TimesSo d start most i now → most ≤ i → most ≡ n → now ≡ raised_times d n start
  unfolding raised_times
  times_all {i} so l e = let none : most - i ≡ 0 = omega arith in rw none at so.left ∙ ap (λ (n : ℕ). raised_times d n start) e

-- as many as the meaning has
pub most_passes : {image labels : List ℕ} {x : Design} {n : ℕ} → n ≡ x.registers * x.labels → Raising image x labels → n ≡ length (design_of image).registers * length (design_of image).rows
most_passes e here = e ∙ rw (registers_count here.known.describes, labels_count here.known.describes) refl

-- what is known after the passes so far
pub raising_times : {image start now : List ℕ} {x : Design} {most i : ℕ} → TimesSo (design_of image) start most i now → Raising image x start → Raising image x now
raising_times so here = record { known = here.known; structured = here.structured; plain = here.plain; labelling = so.labelling }

module _ {image start now after : List ℕ} {x : Design} {most i : ℕ} {moved : Bool} (to : RaisedOnce (design_of image) now after moved) (so : TimesSo (design_of image) start most i now) where
  -- what a pass leaves is a table of labels
  pub labelling_to : Raising image x start → Labelling (design_of image) after
  labelling_to here = once_labelling to (raising_times so here)

  pub times_more : i < most → Raising image x start → TimesSo (design_of image) start most (i + 1) after
  unfolding raised_times
  times_more l here =
      let one : most - i ≡ suc (most - (i + 1)) = omega arith in
      record { labelling = labelling_to here; left = rw to.is (rw one at so.left) }
