-- What raising leaves is a table of labels, and what it leaves at an assignment.
use Prim.Native.Nat.{ℕ, ◌≤◌, ◌<◌}
use mathlib.Core.Path.{◌≡◌, refl, sym, ◌∙◌, ap, ap₂}
use mathlib.Core.Bool.{Bool, true, false, cond}
use mathlib.Core.List.{List}
use native.Mathlib.Omega.{arith}
use lib.Bits.{bit_and}
use lib.ListN.{length, get_or, set, length-set}
use Rattle.model.specs.Image.{Design as Table, Node, design_of, command_at}
use Rattle.model.specs.Kinds.{command_kind}
use Rattle.model.specs.Trees.{Cmd, skip, assign, sequence, fall, goto, branch, expr_of, cmd_of}
use Rattle.model.specs.Rules.{Scoped}
use Rattle.model.proofs.Laws.Plain.{plain_name}
use Rattle.model.proofs.Laws.Relabelling.{Labelled}
use Rattle.model.proofs.Raising.Orders.{set_cases}
use Rattle.model.proofs.Laws.Trees.{cmd_assign}
use Rattle.design.specs.declared.Design.{Design}
use Rattle.design.specs.Records.{node_in, row_in, row_end}
use Rattle.design.specs.RecordsAt.{CommandAt}
use Rattle.design.proofs.Laws.{labels_count, labels_most, expressions_count, row_inside_lem, row_in_lem}
use Rattle.design.proofs.FieldRules.{command_at_lem, same_command, item_is, a_is, assigned_register, assigned_expression, expression_at_lem}
use Rattle.checker_flow.specs.Flows.{mask_read, has_bit, Gathering}
use Rattle.raising.specs.Passes.{least_of, Labelling, Raising, Assigns, above_under, raised_under, moved_under, RaisedAt}
use Rattle.raising.proofs.JoinRules.{least_label_lem}

-- ---- tables of labels
-- raised labels are labels, whatever the context
module _ (d : Table) (masks : List ℕ) (some : 0 < length d.rows) where
  set_labelling : (labels : List ℕ) (r v : ℕ) → v < length d.rows → Labelling d labels → Labelling d (set labels r v)
  set_labelling labels r v label own =
      let long = length-set labels r v in
      let exact = own.exact in
      record {
        kept = record { enough = omega arith; inside = λ k l. set_cases (λ label. label < length d.rows) labels r v k (λ same. label) (own.kept.inside k l) };
        exact = long ∙ exact;
      }

  pub under_labelling : (mask : ℕ) (c : Cmd) (labels : List ℕ) → Labelling d labels → Labelling d (raised_under d masks mask c labels)
  unfolding raised_under
  under_labelling mask (skip n) labels own = own
  under_labelling mask (assign n r e) labels own = go (has_bit (above_under d masks mask r e labels) (get_or labels r 0))
    where
      go : (b : Bool) → Labelling d (cond b labels (set labels r (least_of d.rows (above_under d masks mask r e labels))))
      go true = own
      go false = set_labelling labels r _ (least_label_lem d.rows (above_under d masks mask r e labels) some) own
  under_labelling mask (sequence n p q) labels own = under_labelling mask q _ (under_labelling mask p labels own)
  under_labelling mask (fall n) labels own = own
  under_labelling mask (goto n t a b) labels own = own
  under_labelling mask (branch n e p q) labels own = under_labelling (bit_and mask (mask_read labels masks e)) q _ (under_labelling (bit_and mask (mask_read labels masks e)) p labels own)

-- those of the meaning, as the code has them
pub labelling_of : {d : Table} {labels : List ℕ} → Labelled d labels → Labelling d labels
labelling_of {d} {labels} own =
    let exact = own.enough in
    record { kept = record { enough = omega arith; inside = λ r l. own.valid r }; exact = exact }

-- what is known stays known
module _ {image labels : List ℕ} {x : Design} (here : Raising image x labels) where
  pub command_here : {n : ℕ} → n < x.commands → CommandAt image x x.commands_at n
  command_here l = command_at_lem here.known.describes here.known.commands l refl

  pub gathering : {e : ℕ} → e < length (design_of image).expressions → Gathering image labels x e
  gathering l =
      let count = expressions_count here.known.describes in
      record {
        known = here.known;
        labelling = here.labelling.kept;
        expression = expression_at_lem here.known.describes here.known.expressions (omega arith) refl;
      }

  -- ---- an assignment
  module _ {n : ℕ} (a : Assigns image x n) where
    byte : (node_in image x.commands_at n).kind ≡ 1
    byte = ap (λ (y : Node). y.kind) (same_command (command_here a.command)) ∙ a.kind

    pub tree : cmd_of (design_of image) n ≡ assign n (command_at (design_of image) n).item (expr_of (design_of image) (command_at (design_of image) n).a)
    unfolding command_kind
    tree = cmd_assign (design_of image) n (ap command_kind a.kind)

    pub scoped : Scoped (design_of image) a.stands.state (assign n (command_at (design_of image) n).item (expr_of (design_of image) (command_at (design_of image) n).a))
    scoped = rw tree at a.stands.scoped

    -- without parameters what is written is a register
    pub register_below : {r : ℕ} → r ≡ (node_in image x.commands_at n).item → r < length (design_of image).registers
    register_below f =
        let at = command_here a.command in
        assigned_register at byte refl f (rw (item_is at f) (plain_name (design_of image) here.plain.none a.stands.state (command_at (design_of image) n).item scoped.0))

    pub entry_inside : {r : ℕ} → r ≡ (node_in image x.commands_at n).item → r < length labels
    entry_inside f = let below = register_below f in let same = here.labelling.exact in omega arith

    entry_below : {r l : ℕ} → r ≡ (node_in image x.commands_at n).item → l ≡ get_or labels r 0 → l < length (design_of image).rows
    entry_below {r} f e = rw e (here.labelling.kept.inside r (register_below f))

    pub entry_row_inside : {r l : ℕ} → r ≡ (node_in image x.commands_at n).item → l ≡ get_or labels r 0 → l < x.labels
    entry_row_inside f e = let count = labels_count here.known.describes in let below = entry_below f e in omega arith

    pub entry_small : {r l : ℕ} → r ≡ (node_in image x.commands_at n).item → l ≡ get_or labels r 0 → l < 64
    entry_small f e =
        let count = labels_count here.known.describes in
        let most = labels_most here.known.describes in
        let below = entry_below f e in
        omega arith

    pub assigned_gathers : {e : ℕ} → e ≡ (node_in image x.commands_at n).a → Gathering image labels x e
    assigned_gathers f = gathering (assigned_expression (command_here a.command) byte refl f)

    -- what the assignment makes of the table
    module _ (masks : List ℕ) {r e l own m : ℕ}
        (fr : r ≡ (node_in image x.commands_at n).item)
        (fe : e ≡ (node_in image x.commands_at n).a)
        (fl : l ≡ get_or labels r 0)
        (fo : own ≡ row_in image l)
        (read : m ≡ mask_read labels masks (expr_of (design_of image) e))
      where
        own_row : own ≡ get_or (design_of image).rows l 0
        own_row = let count = labels_count here.known.describes in let below = entry_below fr fl in fo ∙ row_in_lem here.known.describes (omega arith)

        above_is : (mask : ℕ) → bit_and own (bit_and mask m) ≡ above_under (design_of image) masks mask (command_at (design_of image) n).item (expr_of (design_of image) (command_at (design_of image) n).a) labels
        above_is mask = rw (own_row, read, fl, item_is (command_here a.command) fr, a_is (command_here a.command) fe) refl

        label_here : l ≡ get_or labels (command_at (design_of image) n).item 0
        label_here = fl ∙ ap (λ (r : ℕ). get_or labels r 0) (item_is (command_here a.command) fr)

        test_is : (mask : ℕ) {b : Bool} → b ≡ has_bit (bit_and own (bit_and mask m)) l
            → b ≡ has_bit (above_under (design_of image) masks mask (command_at (design_of image) n).item (expr_of (design_of image) (command_at (design_of image) n).a) labels) (get_or labels (command_at (design_of image) n).item 0)
        test_is mask fb = fb ∙ ap₂ has_bit (above_is mask) label_here

        pub assignment_still : {b : Bool} (mask : ℕ) → b ≡ has_bit (bit_and own (bit_and mask m)) l → b ≡ true → RaisedAt (design_of image) masks mask n labels labels false
        unfolding raised_under moved_under
        assignment_still mask fb h =
            let test = sym (test_is mask fb) ∙ h in
            record {
              is = sym (ap (λ (c : Cmd). raised_under (design_of image) masks mask c labels) tree ∙ rw test refl);
              rose = sym (ap (λ (c : Cmd). moved_under (design_of image) masks mask c labels) tree ∙ rw test refl);
            }

        pub assignment_raises : {v : ℕ} {b : Bool} (mask : ℕ) → v ≡ least_of (design_of image).rows (bit_and own (bit_and mask m)) → b ≡ has_bit (bit_and own (bit_and mask m)) l → b ≡ false → RaisedAt (design_of image) masks mask n labels (set labels r v) true
        unfolding raised_under moved_under
        assignment_raises {v} mask fv fb h =
            let test = sym (test_is mask fb) ∙ h in
            let value = fv ∙ ap (least_of (design_of image).rows) (above_is mask) in
            record {
              is = ap₂ (λ (r v : ℕ). set labels r v) (item_is (command_here a.command) fr) value ∙ sym (ap (λ (c : Cmd). raised_under (design_of image) masks mask c labels) tree ∙ rw test refl);
              rose = sym (ap (λ (c : Cmd). moved_under (design_of image) masks mask c labels) tree ∙ rw test refl);
            }

pub ruleset assignment_laws = (entry_inside, entry_row_inside, entry_small, assigned_gathers, assignment_still, assignment_raises)
