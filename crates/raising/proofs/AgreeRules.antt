-- What a command makes of the table in a context that is a mask is what the meaning makes of it in the labels whose mask it is, by induction over node numbers; and
-- where the meaning says that nothing rose, nothing changed.
use Prim.Native.Nat.{ℕ, zero, suc, ◌^◌, ◌<◌}
use mathlib.Core.Path.{◌≡◌, refl, sym, ◌∙◌, ap, ap₂}
use mathlib.Core.Bool.{Bool, true, false, ◌||◌}
use mathlib.Core.List.{List, [], ◌∷◌, ◌++◌}
use native.Mathlib.Omega.{arith}
use native.Mathlib.Nat.{lt_of_le_of_lt}
use lib.Bits.{bit_and, and_le_l}
use lib.ListN.{length, get_or, set}
use lib.Seq.{set-get_or}
use borrow.Author.Tests.{eqb-true}
use Rattle.model.specs.Image.{Design as Table, Node, design_of, command_at}
use Rattle.model.specs.Lattice.{state_label}
use Rattle.model.specs.Trees.{Cmd, skip, assign, sequence, fall, goto, branch, expr_of, cmd_of, body_of}
use Rattle.model.specs.Raising.{join_of, labels_read_by, raised_by, raised_by_states, raised_once}
use Rattle.model.proofs.Laws.Booleans.{true_or_false, not_false}
use Rattle.model.proofs.Laws.Indices.{nothing_below_zero}
use Rattle.model.proofs.Laws.Joins.{AreLabels}
use Rattle.model.proofs.Raising.Passes.{assigned, inner_valid}
use Rattle.design.specs.declared.Design.{Design}
use Rattle.design.specs.Records.{node_in}
use Rattle.design.proofs.FieldRules.{same_command, sequence_a_below, sequence_b_below, branch_b_below, branch_c_below}
use Rattle.checker_flow.specs.Flows.{mask_read}
use Rattle.raising.specs.Passes.{RaisingCommand, above_under, raised_under, moved_under, moved_by, moved_by_states, moved_once}
use Rattle.raising.proofs.JoinRules.{RowMask, assigned_same, moved_same}
use Rattle.raising.proofs.MaskRules.{mask_both, mask_row, labelled_here, able_here, read_mask}
use Rattle.raising.proofs.PassRules.{command_here, tree, scoped, register_below, assigned_gathers}
use Rattle.raising.proofs.CommandRules.{assigns_here, condition_gathers, sequence_tree, sequence_a_raising, sequence_b_raising, branch_tree, condition_scoped, branch_b_raising, branch_c_raising, idle_here}

-- ---- where nothing rose
or_none : (a b : Bool) → (a || b) ≡ false → (a ≡ false) × (b ≡ false)
or_none true b e = absurd (true_or_false true refl e)
or_none false b e = (refl, e)

module _ (d : Table) where
  still_by : (context : List ℕ) (c : Cmd) (labels : List ℕ) → moved_by d context c labels ≡ false → raised_by d context c labels ≡ labels
  unfolding moved_by raised_by
  still_by context (skip n) labels h = refl
  still_by context (assign n r e) labels h = ap (set labels r) (eqb-true (join_of d.rows (get_or labels r 0 ∷ (context ++ labels_read_by labels e))) (get_or labels r 0) (not_false _ h)) ∙ set-get_or labels r 0
  still_by context (sequence n p q) labels h =
      let both = or_none (moved_by d context p labels) (moved_by d context q (raised_by d context p labels)) h in
      let first = still_by context p labels both.0 in
      ap (raised_by d context q) first ∙ still_by context q labels (sym (ap (moved_by d context q) first) ∙ both.1)
  still_by context (fall n) labels h = refl
  still_by context (goto n t a b) labels h = refl
  still_by context (branch n e p q) labels h =
      let inner = context ++ labels_read_by labels e in
      let both = or_none (moved_by d inner p labels) (moved_by d inner q (raised_by d inner p labels)) h in
      let first = still_by inner p labels both.0 in
      ap (raised_by d inner q) first ∙ still_by inner q labels (sym (ap (moved_by d inner q) first) ∙ both.1)

  still_states : (n : ℕ) (labels : List ℕ) → moved_by_states d n labels ≡ false → raised_by_states d n labels ≡ labels
  unfolding moved_by_states raised_by_states
  still_states zero labels h = refl
  still_states (suc s) labels h =
      let context = state_label d s ∷ [] in
      let both = or_none (moved_by_states d s labels) (moved_by d context (body_of d s) (raised_by_states d s labels)) h in
      let first = still_states s labels both.0 in
      ap (raised_by d context (body_of d s)) first ∙ still_by context (body_of d s) labels (sym (ap (moved_by d context (body_of d s)) first) ∙ both.1)

  pub still_once : (labels : List ℕ) → moved_once d labels ≡ false → raised_once d labels ≡ labels
  unfolding moved_once raised_once
  still_once labels h = still_states (length d.states) labels h

-- ---- masks and lists
pub record Agrees (d : Table) (masks labels : List ℕ) (n : ℕ) : Type 0 where
  pub raised : (context : List ℕ) (mask : ℕ) → RowMask d.rows context mask → AreLabels d.rows context → raised_under d masks mask (cmd_of d n) labels ≡ raised_by d context (cmd_of d n) labels
  pub moved : (context : List ℕ) (mask : ℕ) → RowMask d.rows context mask → AreLabels d.rows context → moved_under d masks mask (cmd_of d n) labels ≡ moved_by d context (cmd_of d n) labels

module _ {image masks : List ℕ} {x : Design} where
  module _ {labels : List ℕ} {n : ℕ} (of : RaisingCommand image x masks labels n) (below : (m : ℕ) → m < n → (now : List ℕ) → RaisingCommand image x masks now m → Agrees (design_of image) masks now m) where
    abbrev d : Table
    d = design_of image

    agree_other : {k : ℕ} → (k ≡ 1 → ⊥) → (k ≡ 2 → ⊥) → (k ≡ 5 → ⊥) → k ≡ (node_in image x.commands_at n).kind → Agrees (design_of image) masks labels n
    agree_other a b c byte =
        let idle = idle_here of a b c byte in
        record {
          raised = λ context mask around valid. idle.raised d masks mask labels ∙ sym (idle.meant d context labels);
          moved = λ context mask around valid. idle.moved d masks mask labels ∙ sym (idle.meant_moved d context labels);
        }

    -- an assignment: the mask of what is above is that of the list, and the least label of both is one
    agree_assign : 1 ≡ (node_in image x.commands_at n).kind → Agrees (design_of image) masks labels n
    unfolding raised_under moved_under raised_by moved_by
    agree_assign byte =
        let here = of.raising in
        let a = assigns_here of refl byte in
        let lattice = here.structured.lattice in
        let r = (command_at d n).item in
        let field = (command_at d n).a in
        let e = expr_of d field in
        let l = get_or labels r 0 in
        let shape = tree here a in
        let node = sym (same_command (command_here here a.command)) in
        let low : l < length d.rows = here.labelling.kept.inside r (register_below here a (ap (λ (y : Node). y.item) node)) in
        let read = read_mask here field (assigned_gathers here a (ap (λ (y : Node). y.a) node)) of.rows a.stands.exists (scoped here a).1 in
        let small : (mask : ℕ) → above_under d masks mask r e labels < 2 ^ length d.rows = λ mask. lt_of_le_of_lt (and_le_l (get_or d.rows l 0) _) (lattice.inside l low) in
        record {
          raised = λ context mask around valid.
              let whole : RowMask d.rows (l ∷ (context ++ labels_read_by labels e)) (above_under d masks mask r e labels) = mask_both (mask_row refl) (mask_both around read) in
              let join = assigned d (able_here here) context labels r e valid (labelled_here here) in
              ap (λ (c : Cmd). raised_under d masks mask c labels) shape
              ∙ assigned_same d.rows lattice (context ++ labels_read_by labels e) l (above_under d masks mask r e labels) low whole (small mask) join labels r refl
              ∙ sym (ap (λ (c : Cmd). raised_by d context c labels) shape);
          moved = λ context mask around valid.
              let whole : RowMask d.rows (l ∷ (context ++ labels_read_by labels e)) (above_under d masks mask r e labels) = mask_both (mask_row refl) (mask_both around read) in
              let join = assigned d (able_here here) context labels r e valid (labelled_here here) in
              ap (λ (c : Cmd). moved_under d masks mask c labels) shape
              ∙ moved_same d.rows lattice (context ++ labels_read_by labels e) l (above_under d masks mask r e labels) low whole (small mask) join
              ∙ sym (ap (λ (c : Cmd). moved_by d context c labels) shape);
        }

    agree_sequence : 2 ≡ (node_in image x.commands_at n).kind → Agrees (design_of image) masks labels n
    unfolding raised_under moved_under raised_by moved_by
    agree_sequence byte =
        let a = (node_in image x.commands_at n).a in
        let b = (node_in image x.commands_at n).b in
        let at = command_here of.raising of.command in
        let shape = sequence_tree of refl byte refl refl in
        let first = below a (sequence_a_below at refl byte refl) labels (sequence_a_raising of refl byte refl) in
        let second : (mask : ℕ) → Agrees d masks (raised_under d masks mask (cmd_of d a) labels) b = λ mask. below b (sequence_b_below at refl byte refl) (raised_under d masks mask (cmd_of d a) labels) (sequence_b_raising of refl byte {a = a} {mask = mask} (record { is = refl; rose = refl }) refl) in
        record {
          raised = λ context mask around valid.
              ap (λ (c : Cmd). raised_under d masks mask c labels) shape
              ∙ (second mask).raised context mask around valid
              ∙ ap (raised_by d context (cmd_of d b)) (first.raised context mask around valid)
              ∙ sym (ap (λ (c : Cmd). raised_by d context c labels) shape);
          moved = λ context mask around valid.
              ap (λ (c : Cmd). moved_under d masks mask c labels) shape
              ∙ ap₂ ◌||◌ (first.moved context mask around valid) ((second mask).moved context mask around valid ∙ ap (moved_by d context (cmd_of d b)) (first.raised context mask around valid))
              ∙ sym (ap (λ (c : Cmd). moved_by d context c labels) shape);
        }

    agree_branch : 5 ≡ (node_in image x.commands_at n).kind → Agrees (design_of image) masks labels n
    unfolding raised_under moved_under raised_by moved_by
    agree_branch byte =
        let e = (node_in image x.commands_at n).a in
        let b = (node_in image x.commands_at n).b in
        let c = (node_in image x.commands_at n).c in
        let test = expr_of d e in
        let here = of.raising in
        let at = command_here here of.command in
        let shape = branch_tree of refl byte refl refl refl in
        let first = below b (branch_b_below at refl byte refl) labels (branch_b_raising of refl byte refl) in
        let second : (mask : ℕ) → Agrees d masks (raised_under d masks mask (cmd_of d b) labels) c = λ mask. below c (branch_c_below at refl byte refl) (raised_under d masks mask (cmd_of d b) labels) (branch_c_raising of refl byte {b = b} {mask = mask} (record { is = refl; rose = refl }) refl) in
        let read = read_mask here e (condition_gathers of refl byte refl) of.rows of.stands.exists (condition_scoped of refl byte refl) in
        record {
          raised = λ context mask around valid.
              let inner = context ++ labels_read_by labels test in
              let under = bit_and mask (mask_read labels masks test) in
              let inside = mask_both around read in
              let labelled = inner_valid d (able_here here) context labels test valid (labelled_here here) in
              ap (λ (c : Cmd). raised_under d masks mask c labels) shape
              ∙ (second under).raised inner under inside labelled
              ∙ ap (raised_by d inner (cmd_of d c)) (first.raised inner under inside labelled)
              ∙ sym (ap (λ (c : Cmd). raised_by d context c labels) shape);
          moved = λ context mask around valid.
              let inner = context ++ labels_read_by labels test in
              let under = bit_and mask (mask_read labels masks test) in
              let inside = mask_both around read in
              let labelled = inner_valid d (able_here here) context labels test valid (labelled_here here) in
              ap (λ (c : Cmd). moved_under d masks mask c labels) shape
              ∙ ap₂ ◌||◌ (first.moved inner under inside labelled) ((second under).moved inner under inside labelled ∙ ap (moved_by d inner (cmd_of d c)) (first.raised inner under inside labelled))
              ∙ sym (ap (λ (c : Cmd). moved_by d context c labels) shape);
        }

    agree_one : Agrees (design_of image) masks labels n
    agree_one = go (node_in image x.commands_at n).kind refl
      where
        go : (k : ℕ) → k ≡ (node_in image x.commands_at n).kind → Agrees (design_of image) masks labels n
        go zero byte = agree_other (λ z. omega arith) (λ z. omega arith) (λ z. omega arith) byte
        go (suc zero) byte = agree_assign byte
        go (suc (suc zero)) byte = agree_sequence byte
        go (suc (suc (suc zero))) byte = agree_other (λ z. omega arith) (λ z. omega arith) (λ z. omega arith) byte
        go (suc (suc (suc (suc zero)))) byte = agree_other (λ z. omega arith) (λ z. omega arith) (λ z. omega arith) byte
        go (suc (suc (suc (suc (suc zero))))) byte = agree_branch byte
        go (suc (suc (suc (suc (suc (suc k)))))) byte = agree_other (λ z. omega arith) (λ z. omega arith) (λ z. omega arith) byte

  agree_below : (f n : ℕ) → n < f → (labels : List ℕ) → RaisingCommand image x masks labels n → Agrees (design_of image) masks labels n
  agree_below zero n l labels of = absurd (nothing_below_zero l)
  agree_below (suc f) n l labels of = agree_one of (λ m h. agree_below f m (omega arith))

  pub agrees : {labels : List ℕ} {n : ℕ} → RaisingCommand image x masks labels n → Agrees (design_of image) masks labels n
  agrees {labels} {n} of = agree_below (suc n) n (omega arith) labels of
