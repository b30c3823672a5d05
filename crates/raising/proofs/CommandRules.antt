-- A command hands the table on to its parts: a sequence in its own context, an if with what its condition reads besides.
use Prim.Native.Nat.{ℕ, zero, suc, ◌<◌}
use mathlib.Core.Path.{◌≡◌, refl, sym, ◌∙◌, ap, ap₂}
use mathlib.Core.Bool.{Bool, false, ◌||◌}
use mathlib.Core.List.{List}
use native.Mathlib.Omega.{arith}
use lib.Bits.{bit_and}
use lib.ListN.{length}
use Rattle.model.specs.Image.{Design as Table, design_of, command_at}
use Rattle.model.specs.Kinds.{sequences, branches, command_kind}
use Rattle.model.specs.Trees.{Cmd, skip, fall, goto, sequence, branch, expr_of, cmd_of}
use Rattle.model.specs.Rules.{ReadsScoped, Scoped, CommandHolds}
use Rattle.model.specs.Raising.{raised_by}
use Rattle.model.proofs.Laws.Trees.{cmd_skip, cmd_sequence, cmd_fall, cmd_goto, cmd_branch}
use Rattle.design.specs.declared.Design.{Design}
use Rattle.design.specs.Records.{node_in}
use Rattle.design.specs.RecordsAt.{CommandAt}
use Rattle.design.proofs.FieldRules.{command_kind_is, command_kind_of, a_is, b_is, c_is, command_holds_lem, condition, sequence_a_below, sequence_b_below, branch_b_below, branch_c_below}
use Rattle.checker_flow.specs.Flows.{mask_read, Gathering}
use Rattle.raising.specs.Passes.{Labelling, RaisingCommand, Assigns, raised_under, moved_under, moved_by, RaisedAt}
use Rattle.raising.proofs.PassRules.{command_here, gathering, under_labelling}
use Rattle.checker_flow.proofs.TableRules.{label_some}

-- ---- commands that raise nothing
pub record Idle (c : Cmd) : Type 0 where
  pub raised : (d : Table) (masks : List ℕ) (mask : ℕ) (labels : List ℕ) → raised_under d masks mask c labels ≡ labels
  pub moved : (d : Table) (masks : List ℕ) (mask : ℕ) (labels : List ℕ) → moved_under d masks mask c labels ≡ false
  pub meant : (d : Table) (context labels : List ℕ) → raised_by d context c labels ≡ labels
  pub meant_moved : (d : Table) (context labels : List ℕ) → moved_by d context c labels ≡ false

idle_skip : (n : ℕ) → Idle (skip n)
unfolding raised_under moved_under raised_by moved_by
idle_skip n = record { raised = λ d masks mask labels. refl; moved = λ d masks mask labels. refl; meant = λ d context labels. refl; meant_moved = λ d context labels. refl }

idle_fall : (n : ℕ) → Idle (fall n)
unfolding raised_under moved_under raised_by moved_by
idle_fall n = record { raised = λ d masks mask labels. refl; moved = λ d masks mask labels. refl; meant = λ d context labels. refl; meant_moved = λ d context labels. refl }

idle_goto : (n t a b : ℕ) → Idle (goto n t a b)
unfolding raised_under moved_under raised_by moved_by
idle_goto n t a b = record { raised = λ d masks mask labels. refl; moved = λ d masks mask labels. refl; meant = λ d context labels. refl; meant_moved = λ d context labels. refl }

-- ---- a command
module _ {image masks labels : List ℕ} {x : Design} {n : ℕ} (of : RaisingCommand image x masks labels n) where
  at : CommandAt image x x.commands_at n
  at = command_here of.raising of.command

  pub assigns_here : {k : ℕ} → k ≡ 1 → k ≡ (node_in image x.commands_at n).kind → Assigns image x n
  assigns_here q p = record { command = of.command; kind = command_kind_is at q p; stands = of.stands }

  pub condition_gathers : {k e : ℕ} → k ≡ 5 → k ≡ (node_in image x.commands_at n).kind → e ≡ (node_in image x.commands_at n).a → Gathering image labels x e
  condition_gathers q p f = gathering of.raising (condition at q p f)

  -- parts have lower numbers
  pub sequence_a_lower : {k a t : ℕ} → k ≡ 2 → k ≡ (node_in image x.commands_at n).kind → a ≡ (node_in image x.commands_at n).a → n ≡ t → a < t
  sequence_a_lower q p f e = rw (← e) (sequence_a_below at q p f)

  pub sequence_b_lower : {k b t : ℕ} → k ≡ 2 → k ≡ (node_in image x.commands_at n).kind → b ≡ (node_in image x.commands_at n).b → n ≡ t → b < t
  sequence_b_lower q p f e = rw (← e) (sequence_b_below at q p f)

  pub branch_b_lower : {k b t : ℕ} → k ≡ 5 → k ≡ (node_in image x.commands_at n).kind → b ≡ (node_in image x.commands_at n).b → n ≡ t → b < t
  branch_b_lower q p f e = rw (← e) (branch_b_below at q p f)

  pub branch_c_lower : {k c t : ℕ} → k ≡ 5 → k ≡ (node_in image x.commands_at n).kind → c ≡ (node_in image x.commands_at n).c → n ≡ t → c < t
  branch_c_lower q p f e = rw (← e) (branch_c_below at q p f)

  -- ---- parts stand in the same state
  part_raising : {m : ℕ} {now : List ℕ} → m < n → Scoped (design_of image) of.stands.state (cmd_of (design_of image) m) → Labelling (design_of image) now → RaisingCommand image x masks now m
  part_raising lower scoped own =
      let here = of.raising in
      let below = of.command in
      record {
        raising = record { known = here.known; structured = here.structured; plain = here.plain; labelling = own };
        rows = of.rows;
        command = omega arith;
        stands = record { state = of.stands.state; exists = of.stands.exists; scoped = scoped };
      }

  some : 0 < length (design_of image).rows
  some = label_some of.raising.known

  module _ {k : ℕ} (kind : k ≡ 2) (byte : k ≡ (node_in image x.commands_at n).kind) where
    pub sequence_tree : {a b : ℕ} → a ≡ (node_in image x.commands_at n).a → b ≡ (node_in image x.commands_at n).b → cmd_of (design_of image) n ≡ sequence n (cmd_of (design_of image) a) (cmd_of (design_of image) b)
    unfolding command_kind
    sequence_tree fa fb = rw (a_is at fa, b_is at fb) (cmd_sequence (design_of image) n (command_kind_of at sequences kind byte refl) (command_holds_lem at kind byte).1 (command_holds_lem at kind byte).2)

    sequence_scoped : {a b : ℕ} → a ≡ (node_in image x.commands_at n).a → b ≡ (node_in image x.commands_at n).b → Scoped (design_of image) of.stands.state (sequence n (cmd_of (design_of image) a) (cmd_of (design_of image) b))
    sequence_scoped fa fb = rw (sequence_tree fa fb) at of.stands.scoped

    pub sequence_a_raising : {a : ℕ} → a ≡ (node_in image x.commands_at n).a → RaisingCommand image x masks labels a
    sequence_a_raising f = part_raising (sequence_a_below at kind byte f) (sequence_scoped f refl).0 of.raising.labelling

    pub sequence_b_raising : {a b mask : ℕ} {middle : List ℕ} {p : Bool} → RaisedAt (design_of image) masks mask a labels middle p → b ≡ (node_in image x.commands_at n).b → RaisingCommand image x masks middle b
    sequence_b_raising first f = part_raising (sequence_b_below at kind byte f) (sequence_scoped refl f).1 (rw first.is (under_labelling (design_of image) masks some _ _ labels of.raising.labelling))

  module _ {k : ℕ} (kind : k ≡ 5) (byte : k ≡ (node_in image x.commands_at n).kind) where
    pub branch_tree : {e b c : ℕ} → e ≡ (node_in image x.commands_at n).a → b ≡ (node_in image x.commands_at n).b → c ≡ (node_in image x.commands_at n).c
        → cmd_of (design_of image) n ≡ branch n (expr_of (design_of image) e) (cmd_of (design_of image) b) (cmd_of (design_of image) c)
    unfolding command_kind
    branch_tree fe fb fc = rw (a_is at fe, b_is at fb, c_is at fc) (cmd_branch (design_of image) n (command_kind_of at branches kind byte refl) (command_holds_lem at kind byte).2 (command_holds_lem at kind byte).3)

    branch_scoped : {e b c : ℕ} → e ≡ (node_in image x.commands_at n).a → b ≡ (node_in image x.commands_at n).b → c ≡ (node_in image x.commands_at n).c
        → Scoped (design_of image) of.stands.state (branch n (expr_of (design_of image) e) (cmd_of (design_of image) b) (cmd_of (design_of image) c))
    branch_scoped fe fb fc = rw (branch_tree fe fb fc) at of.stands.scoped

    pub condition_scoped : {e : ℕ} → e ≡ (node_in image x.commands_at n).a → ReadsScoped (design_of image) of.stands.state (expr_of (design_of image) e)
    condition_scoped f = (branch_scoped f refl refl).0

    pub branch_b_raising : {b : ℕ} → b ≡ (node_in image x.commands_at n).b → RaisingCommand image x masks labels b
    branch_b_raising f = part_raising (branch_b_below at kind byte f) (branch_scoped refl f refl).1 of.raising.labelling

    pub branch_c_raising : {b c mask : ℕ} {middle : List ℕ} {p : Bool} → RaisedAt (design_of image) masks mask b labels middle p → c ≡ (node_in image x.commands_at n).c → RaisingCommand image x masks middle c
    branch_c_raising first f = part_raising (branch_c_below at kind byte f) (branch_scoped refl refl f).2 (rw first.is (under_labelling (design_of image) masks some _ _ labels of.raising.labelling))

  -- ---- what a command makes of the table
  pub sequence_raises :
      {k a b mask : ℕ} {middle after : List ℕ} {p q : Bool}
      → k ≡ 2
      → k ≡ (node_in image x.commands_at n).kind
      → a ≡ (node_in image x.commands_at n).a
      → b ≡ (node_in image x.commands_at n).b
      → RaisedAt (design_of image) masks mask a labels middle p
      → RaisedAt (design_of image) masks mask b middle after q
      → RaisedAt (design_of image) masks mask n labels after (p || q)
  unfolding raised_under moved_under
  sequence_raises {b = b} {mask = mask} kind byte fa fb first second =
      let d = design_of image in
      let tree = sequence_tree kind byte fa fb in
      record {
        is = second.is ∙ ap (raised_under d masks mask (cmd_of d b)) first.is ∙ sym (ap (λ (c : Cmd). raised_under d masks mask c labels) tree);
        rose = ap₂ ◌||◌ first.rose (second.rose ∙ ap (moved_under d masks mask (cmd_of d b)) first.is) ∙ sym (ap (λ (c : Cmd). moved_under d masks mask c labels) tree);
      }

  pub branch_raises :
      {k e b c m : ℕ} {middle after : List ℕ} {p q : Bool} (mask : ℕ)
      → k ≡ 5
      → k ≡ (node_in image x.commands_at n).kind
      → e ≡ (node_in image x.commands_at n).a
      → b ≡ (node_in image x.commands_at n).b
      → c ≡ (node_in image x.commands_at n).c
      → m ≡ mask_read labels masks (expr_of (design_of image) e)
      → RaisedAt (design_of image) masks (bit_and mask m) b labels middle p
      → RaisedAt (design_of image) masks (bit_and mask m) c middle after q
      → RaisedAt (design_of image) masks mask n labels after (p || q)
  unfolding raised_under moved_under
  branch_raises {e = e} {c = c} {m = m} mask kind byte fe fb fc read first second =
      let d = design_of image in
      let tree = branch_tree kind byte fe fb fc in
      let first' = rw read at first in
      let second' = rw read at second in
      let inner = bit_and mask (mask_read labels masks (expr_of d e)) in
      record {
        is = second'.is ∙ ap (raised_under d masks inner (cmd_of d c)) first'.is ∙ sym (ap (λ (c : Cmd). raised_under d masks mask c labels) tree);
        rose = ap₂ ◌||◌ first'.rose (second'.rose ∙ ap (moved_under d masks inner (cmd_of d c)) first'.is) ∙ sym (ap (λ (c : Cmd). moved_under d masks mask c labels) tree);
      }

  -- a command that is no assignment, sequence or if raises nothing
  pub idle_here : {k : ℕ} → (k ≡ 1 → ⊥) → (k ≡ 2 → ⊥) → (k ≡ 5 → ⊥) → k ≡ (node_in image x.commands_at n).kind → Idle (cmd_of (design_of image) n)
  unfolding command_kind
  idle_here {k} a b c byte = go k (sym (command_kind_is at refl byte)) a b c (command_holds_lem at refl byte)
    where
      go : (k : ℕ) → k ≡ (command_at (design_of image) n).kind → (k ≡ 1 → ⊥) → (k ≡ 2 → ⊥) → (k ≡ 5 → ⊥) → CommandHolds (design_of image) n (command_kind k) (command_at (design_of image) n) → Idle (cmd_of (design_of image) n)
      go zero e a b c h = rw (cmd_skip (design_of image) n (ap command_kind (sym e))) (idle_skip n)
      go (suc zero) e a b c h = absurd (a refl)
      go (suc (suc zero)) e a b c h = absurd (b refl)
      go (suc (suc (suc zero))) e a b c h = rw (cmd_fall (design_of image) n (ap command_kind (sym e))) (idle_fall n)
      go (suc (suc (suc (suc zero)))) e a b c h = rw (cmd_goto (design_of image) n (ap command_kind (sym e))) (idle_goto n _ _ _)
      go (suc (suc (suc (suc (suc zero))))) e a b c h = absurd (c refl)
      go (suc (suc (suc (suc (suc (suc k)))))) e a b c h = absurd h

  pub other_still : {k mask : ℕ} → (k ≡ 1 → ⊥) → (k ≡ 2 → ⊥) → (k ≡ 5 → ⊥) → k ≡ (node_in image x.commands_at n).kind → RaisedAt (design_of image) masks mask n labels labels false
  other_still {mask = mask} a b c byte =
      let idle = idle_here a b c byte in
      record { is = sym (idle.raised (design_of image) masks mask labels); rose = sym (idle.moved (design_of image) masks mask labels) }

pub ruleset command_laws = (assigns_here, condition_gathers, sequence_raises, branch_raises, other_still)
