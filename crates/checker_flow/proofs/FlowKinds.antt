-- What the flow pass gives at a command of each kind, from what it gives at the parts.
use Prim.Native.Nat.{ℕ, zero, suc, ◌+◌, ◌≤◌, ◌<◌}
use mathlib.Core.Path.{◌≡◌, refl, sym, ◌∙◌, ap}
use mathlib.Core.Bool.{Bool, true}
use mathlib.Core.List.{List}
use native.Mathlib.Omega.{arith}
use lib.Bits.{bit_and}
use lib.ListN.{length, get_or}
use Rattle.model.specs.Limits.{registers_max, commands_max, parameter_label}
use Rattle.model.specs.Image.{Design as Table, State, Node, design_of, state_at, command_at}
use Rattle.model.specs.Lattice.{state_label}
use Rattle.model.specs.Kinds.{skips, assigns, sequences, falls, goes, branches, command_kind}
use Rattle.model.specs.States.{sibling_or_self}
use Rattle.model.specs.Scopes.{arguments_kept}
use Rattle.model.specs.Trees.{skip, sequence, goto, branch, expr_of, cmd_of, body_of}
use Rattle.model.specs.Labelling.{relabelled}
use Rattle.model.specs.Flow.{named_label}
use Rattle.model.specs.Rules.{CommandHolds, Scoped, Shaped}
use Rattle.model.proofs.Laws.Trees.{cmd_skip, cmd_assign, cmd_sequence, cmd_fall, cmd_goto, cmd_branch}
use Rattle.design.specs.declared.Design.{Design}
use Rattle.design.specs.Records.{node_in, state_in}
use Rattle.design.specs.Kept.{RecordsKept, ParametersKept}
use Rattle.design.specs.Labels.{LabelsKept}
use Rattle.design.specs.Scopes.{inherited_scope, LabelByte, ScopesBelow, Scopes}
use Rattle.design.proofs.Laws.{states_count, expressions_count, state_in_lem, registers_few}
use Rattle.design.proofs.FieldRules.{body_is, body_below, command_at_lem, command_place_inside, same_command, command_kind_is, command_kind_of, item_is, a_is, b_is, c_is, command_holds_lem, named_state, condition, sequence_a_below, sequence_b_below, branch_b_below, branch_c_below, lower_command, expression_at_lem}
use Rattle.design.proofs.BoundRules.{state_label_byte, labels_few}
use Rattle.checker_bodies.specs.Places.{place_unless}
use Rattle.checker_flow.specs.Masks.{Masks}
use Rattle.checker_flow.specs.Flows.{BodiesKept, CommandScoped, Named, Entered, label_in, mask_read, has_bit, first_place, assign_place, flow_place, Gathering, Assigning, Flowing, Going}
use Rattle.checker_flow.proofs.MaskRules.{byte_small, named_entered}
use Rattle.checker_flow.proofs.GotoRules.{first_named, second_named, label_plain, label_first, label_second, named_label_byte}
use Rattle.checker_flow.proofs.FlowRules.{place_stops, place_goes_on}

-- a kind that is no assignment, sequence, fall, goto or if is a skip
skip_kind : (d : Table) (n k : ℕ) (x : Node) → (k ≡ 1 → ⊥) → (k ≡ 2 → ⊥) → (k ≡ 3 → ⊥) → (k ≡ 4 → ⊥) → (k ≡ 5 → ⊥) → CommandHolds d n (command_kind k) x → command_kind k ≡ skips
unfolding command_kind
skip_kind d n zero x a b c e f h = refl
skip_kind d n (suc zero) x a b c e f h = absurd (a refl)
skip_kind d n (suc (suc zero)) x a b c e f h = absurd (b refl)
skip_kind d n (suc (suc (suc zero))) x a b c e f h = absurd (c refl)
skip_kind d n (suc (suc (suc (suc zero)))) x a b c e f h = absurd (e refl)
skip_kind d n (suc (suc (suc (suc (suc zero))))) x a b c e f h = absurd (f refl)
skip_kind d n (suc (suc (suc (suc (suc (suc k)))))) x a b c e f h = absurd h

-- ---- the label of the state that a goto names
module _ {image labels : List ℕ} {x : Design} {own n : ℕ} (going : Going image labels x own n) where
  abbrev y : Table
  y = design_of image

  going_count : (s : ℕ) → s < x.states → s < length y.states
  going_count s l = let count = states_count going.known.describes in omega arith

  goes_kind : (node_in image x.commands_at n).kind ≡ 4
  goes_kind = ap (λ (z : Node). z.kind) (same_command going.command) ∙ going.kind

  goto_tree : cmd_of y n ≡ goto n (command_at y n).item (command_at y n).a (command_at y n).b
  unfolding command_kind
  goto_tree = cmd_goto y n (ap command_kind going.kind)

  goto_sibling : sibling_or_self y going.s (command_at y n).item ≡ true
  goto_sibling = rw goto_tree at going.scoped.shaped

  goto_arguments : arguments_kept y going.s (command_at y n).item (command_at y n).a (command_at y n).b ≡ true
  goto_arguments = rw goto_tree at going.scoped.scoped

  going_named : (command_at y n).item < length y.states
  going_named = named_state going.command goes_kind refl (ap (λ (z : Node). z.item) (sym (same_command going.command)))

  pub named_inside : {t : ℕ} → t ≡ (node_in image x.commands_at n).item → t < x.states
  named_inside f =
      let count = states_count going.known.describes in
      let below = named_state going.command goes_kind refl f in
      omega arith

  named_label_is : {t l : ℕ} → t ≡ (node_in image x.commands_at n).item → l ≡ (state_in image x.states_at t).label → l ≡ state_label y (command_at y n).item
  named_label_is {t} f e =
      let count = states_count going.known.describes in
      let below = named_state going.command goes_kind refl f in
      let same : state_in image x.states_at t ≡ state_at y t = state_in_lem going.known.describes (omega arith) in
      e ∙ ap (λ (z : State). z.label) same ∙ ap (state_label y) (item_is going.command f)

  few : length y.registers ≤ registers_max
  few = registers_few going.known.describes

  first_is_named : state_label y (command_at y n).item ≡ parameter_label + length (inherited_scope y going.s) → Named y going.s (command_at y n).a
  first_is_named = first_named y going.s (command_at y n).item (command_at y n).a (command_at y n).b going.known.states going.parameters (labels_few going.known.describes) (going_count going.s going.state) going_named goto_sibling goto_arguments

  second_is_named : parameter_label + length (inherited_scope y going.s) < state_label y (command_at y n).item → Named y going.s (command_at y n).b
  second_is_named = second_named y going.s (command_at y n).item (command_at y n).a (command_at y n).b going.known.states going.parameters (labels_few going.known.describes) (going_count going.s going.state) going_named goto_sibling goto_arguments

  module _ {t l : ℕ} (named : t ≡ (node_in image x.commands_at n).item) (label : l ≡ (state_in image x.states_at t).label) where
    pub goes_plain : l < own → l ≡ named_label (relabelled (design_of image) labels) (command_at (design_of image) n).item (command_at (design_of image) n).a (command_at (design_of image) n).b
    goes_plain h =
        let is = named_label_is named label in
        let from = going.own_from in
        is
        ∙ sym
        (label_plain y going.s (command_at y n).item (command_at y n).a (command_at y n).b going.known.states going.parameters (labels_few going.known.describes) (going_count going.s going.state) going_named goto_sibling goto_arguments labels (omega arith))

    pub first_entered : {a : ℕ} → l ≡ own → a ≡ (node_in image x.commands_at n).a → Entered labels a
    first_entered h f =
        let is = named_label_is named label in
        let from = going.own_from in
        rw (a_is going.command f) (named_entered few going.labelling (first_is_named (omega arith)))

    pub second_entered : {b : ℕ} → own ≤ l → (l ≡ own → ⊥) → b ≡ (node_in image x.commands_at n).b → Entered labels b
    second_entered h differ f =
        let is = named_label_is named label in
        let from = going.own_from in
        rw (b_is going.command f) (named_entered few going.labelling (second_is_named (omega (arith, differ))))

    pub goes_first : {a r : ℕ} → l ≡ own → a ≡ (node_in image x.commands_at n).a → r ≡ label_in labels a → r ≡ named_label (relabelled (design_of image) labels) (command_at (design_of image) n).item (command_at (design_of image) n).a (command_at (design_of image) n).b
    goes_first h f g =
        let is = named_label_is named label in
        let from = going.own_from in
        g
        ∙ ap (label_in labels) (a_is going.command f)
        ∙ sym
        (label_first y going.s (command_at y n).item (command_at y n).a (command_at y n).b going.known.states going.parameters (labels_few going.known.describes) (going_count going.s going.state) going_named goto_sibling goto_arguments labels few going.labelling (omega arith))

    pub goes_second : {b r : ℕ} → own ≤ l → (l ≡ own → ⊥) → b ≡ (node_in image x.commands_at n).b → r ≡ label_in labels b → r ≡ named_label (relabelled (design_of image) labels) (command_at (design_of image) n).item (command_at (design_of image) n).a (command_at (design_of image) n).b
    goes_second h differ f g =
        let is = named_label_is named label in
        let from = going.own_from in
        g
        ∙ ap (label_in labels) (b_is going.command f)
        ∙ sym
        (label_second y going.s (command_at y n).item (command_at y n).a (command_at y n).b going.known.states going.parameters (labels_few going.known.describes) (going_count going.s going.state) going_named goto_sibling goto_arguments labels few going.labelling (omega (arith, differ)))

  pub goes_byte : LabelByte y going.s (named_label (relabelled y labels) (command_at y n).item (command_at y n).a (command_at y n).b)
  goes_byte =
      named_label_byte y going.s (command_at y n).item (command_at y n).a (command_at y n).b going.known.states going.parameters (labels_few going.known.describes) (going_count going.s going.state) going_named goto_sibling goto_arguments labels few going.labelling

-- ---- a command
module _ {image labels masks : List ℕ} {x : Design} {s own n : ℕ} (flowing : Flowing image labels masks x s own n) where
  abbrev d : Table
  d = design_of image

  abbrev under : Table
  under = relabelled d labels

  lower_flowing : (m : ℕ) → m < n → CommandScoped d s m → Flowing image labels masks x s own m
  lower_flowing m l scoped =
      record {
        known = flowing.known;
        labelling = flowing.labelling;
        parameters = flowing.parameters;
        table = flowing.table;
        state = flowing.state;
        own_from = flowing.own_from;
        command = lower_command flowing.command flowing.known.commands l;
        scoped = scoped;
      }

  -- the tree of a sequence, and of an if
  module _ {k a b : ℕ} (kind : k ≡ 2) (byte : k ≡ (node_in image x.commands_at n).kind) (first : a ≡ (node_in image x.commands_at n).a) (second : b ≡ (node_in image x.commands_at n).b) where
    pub sequence_tree : cmd_of d n ≡ sequence n (cmd_of d a) (cmd_of d b)
    unfolding command_kind
    sequence_tree =
        let here = flowing.command in
        rw (a_is here first, b_is here second) (cmd_sequence d n (command_kind_of here sequences kind byte refl) (command_holds_lem here kind byte).1 (command_holds_lem here kind byte).2)

    sequence_shaped : Shaped d s (sequence n (cmd_of d a) (cmd_of d b))
    sequence_shaped = rw sequence_tree at flowing.scoped.shaped

    pub sequence_scoped : Scoped d s (sequence n (cmd_of d a) (cmd_of d b))
    sequence_scoped = rw sequence_tree at flowing.scoped.scoped

    pub sequence_first : Flowing image labels masks x s own a
    sequence_first = lower_flowing a (sequence_a_below flowing.command kind byte first) (record { shaped = sequence_shaped.1; scoped = sequence_scoped.0 })

    pub sequence_second : Flowing image labels masks x s own b
    sequence_second = lower_flowing b (sequence_b_below flowing.command kind byte second) (record { shaped = sequence_shaped.2; scoped = sequence_scoped.1 })

  module _ {k e b c : ℕ} (kind : k ≡ 5) (byte : k ≡ (node_in image x.commands_at n).kind) (test : e ≡ (node_in image x.commands_at n).a) (first : b ≡ (node_in image x.commands_at n).b) (second : c ≡ (node_in image x.commands_at n).c) where
    pub branch_tree : cmd_of d n ≡ branch n (expr_of d e) (cmd_of d b) (cmd_of d c)
    unfolding command_kind
    branch_tree =
        let here = flowing.command in
        rw (a_is here test, b_is here first, c_is here second) (cmd_branch d n (command_kind_of here branches kind byte refl) (command_holds_lem here kind byte).2 (command_holds_lem here kind byte).3)

    branch_shaped : Shaped d s (branch n (expr_of d e) (cmd_of d b) (cmd_of d c))
    branch_shaped = rw branch_tree at flowing.scoped.shaped

    pub branch_scoped : Scoped d s (branch n (expr_of d e) (cmd_of d b) (cmd_of d c))
    branch_scoped = rw branch_tree at flowing.scoped.scoped

    pub branch_first : Flowing image labels masks x s own b
    branch_first = lower_flowing b (branch_b_below flowing.command kind byte first) (record { shaped = branch_shaped.1; scoped = branch_scoped.1 })

    pub branch_second : Flowing image labels masks x s own c
    branch_second = lower_flowing c (branch_c_below flowing.command kind byte second) (record { shaped = branch_shaped.2; scoped = branch_scoped.2 })

  pub sequence_a_flowing : {k a : ℕ} → k ≡ 2 → k ≡ (node_in image x.commands_at n).kind → a ≡ (node_in image x.commands_at n).a → Flowing image labels masks x s own a
  sequence_a_flowing q p f = sequence_first q p f refl

  pub sequence_b_flowing : {k b : ℕ} → k ≡ 2 → k ≡ (node_in image x.commands_at n).kind → b ≡ (node_in image x.commands_at n).b → Flowing image labels masks x s own b
  sequence_b_flowing q p f = sequence_second q p refl f

  pub branch_b_flowing : {k b : ℕ} → k ≡ 5 → k ≡ (node_in image x.commands_at n).kind → b ≡ (node_in image x.commands_at n).b → Flowing image labels masks x s own b
  branch_b_flowing q p f = branch_first q p refl f refl

  pub branch_c_flowing : {k c : ℕ} → k ≡ 5 → k ≡ (node_in image x.commands_at n).kind → c ≡ (node_in image x.commands_at n).c → Flowing image labels masks x s own c
  branch_c_flowing q p f = branch_second q p refl refl f

  pub assigning : {k : ℕ} → k ≡ 1 → k ≡ (node_in image x.commands_at n).kind → Assigning image labels x n
  assigning q p =
      record {
        known = flowing.known;
        labelling = flowing.labelling;
        command = flowing.command;
        kind = command_kind_is flowing.command q p;
      }

  pub condition_gathering : {k e : ℕ} → k ≡ 5 → k ≡ (node_in image x.commands_at n).kind → e ≡ (node_in image x.commands_at n).a → Gathering image labels x e
  condition_gathering q p f =
      let count = expressions_count flowing.known.describes in
      let below = condition flowing.command q p f in
      record {
        known = flowing.known;
        labelling = flowing.labelling;
        expression = expression_at_lem flowing.known.describes flowing.known.expressions (omega arith) refl;
      }

  abbrev pub going_goto : {k : ℕ} → k ≡ 4 → k ≡ (node_in image x.commands_at n).kind → Going image labels x own n
  going_goto q p =
      record {
        s = s;
        known = flowing.known;
        labelling = flowing.labelling;
        parameters = flowing.parameters;
        state = flowing.state;
        own_from = flowing.own_from;
        command = flowing.command;
        kind = command_kind_is flowing.command q p;
        scoped = flowing.scoped;
      }

  -- ---- the own label
  state_below : s < length d.states
  state_below = let count = states_count flowing.known.describes in let below = flowing.state in omega arith

  pub own_inside : s < x.states
  own_inside = flowing.state

  own_label : {l : ℕ} → l ≡ (state_in image x.states_at s).label → l ≡ state_label d s
  own_label e = let same : state_in image x.states_at s ≡ state_at d s = state_in_lem flowing.known.describes flowing.state in e ∙ ap (λ (y : State). y.label) same

  pub own_byte : LabelByte (design_of image) s (state_label (design_of image) s)
  own_byte = state_label_byte flowing.known.states flowing.parameters s state_below

  small_byte : {l : ℕ} → LabelByte d s l → l < 64
  small_byte byte = let small = byte_small (labels_few flowing.known.describes) flowing.table.short byte in omega arith

  pub own_small : {l : ℕ} → l ≡ (state_in image x.states_at s).label → l < 64
  own_small e = let is = own_label e in let small = small_byte own_byte in omega arith

  pub named_small :
      {k l : ℕ}
      → k ≡ 4
      → k ≡ (node_in image x.commands_at n).kind
      → l ≡ named_label (relabelled (design_of image) labels) (command_at (design_of image) n).item (command_at (design_of image) n).a (command_at (design_of image) n).b
      → l < 64
  named_small q p e = let small = small_byte (goes_byte (going_goto q p)) in omega arith

  -- ---- what the pass gives
  pub flow_assign : {k p : ℕ} (context : ℕ) → k ≡ 1 → k ≡ (node_in image x.commands_at n).kind
      → p ≡ assign_place labels masks context n (command_at (design_of image) n).item (expr_of (design_of image) (command_at (design_of image) n).a)
      → p ≡ flow_place (design_of image) labels masks s context (cmd_of (design_of image) n)
  unfolding command_kind flow_place
  flow_assign context q e given = given ∙ sym (ap (flow_place d labels masks s context) (cmd_assign d n (command_kind_of flowing.command assigns q e refl)))

  -- a sequence: the first part's, unless it has none
  module _ {k a b : ℕ} (kind : k ≡ 2) (byte : k ≡ (node_in image x.commands_at n).kind) (first : a ≡ (node_in image x.commands_at n).a) (second : b ≡ (node_in image x.commands_at n).b) where
    sequence_place : (context : ℕ) → first_place (flow_place d labels masks s context (cmd_of d a)) (flow_place d labels masks s context (cmd_of d b)) ≡ flow_place d labels masks s context (cmd_of d n)
    unfolding flow_place
    sequence_place context = sym (ap (flow_place d labels masks s context) (sequence_tree kind byte first second))

    pub sequence_stops : {p : ℕ} (context : ℕ) → p < commands_max → p ≡ flow_place (design_of image) labels masks s context (cmd_of (design_of image) a) → p ≡ flow_place (design_of image) labels masks s context (cmd_of (design_of image) n)
    sequence_stops context l found = found ∙ sym (place_stops (flow_place d labels masks s context (cmd_of d b)) (rw found at l)) ∙ sequence_place context

    pub sequence_goes_on : {p q : ℕ} (context : ℕ) → commands_max ≤ p → p ≡ flow_place (design_of image) labels masks s context (cmd_of (design_of image) a) → q ≡ flow_place (design_of image) labels masks s context (cmd_of (design_of image) b) → q ≡ flow_place (design_of image) labels masks s context (cmd_of (design_of image) n)
    sequence_goes_on context l found further = further ∙ sym (place_goes_on (flow_place d labels masks s context (cmd_of d b)) (rw found at l)) ∙ sequence_place context

  -- an if: the first branch's, unless it has none
  module _
      {k e b c m : ℕ}
      (kind : k ≡ 5)
      (byte : k ≡ (node_in image x.commands_at n).kind)
      (test : e ≡ (node_in image x.commands_at n).a)
      (first : b ≡ (node_in image x.commands_at n).b)
      (second : c ≡ (node_in image x.commands_at n).c)
      (read : m ≡ mask_read labels masks (expr_of (design_of image) e))
    where
      branch_place : (context : ℕ) → first_place (flow_place d labels masks s (bit_and context m) (cmd_of d b)) (flow_place d labels masks s (bit_and context m) (cmd_of d c)) ≡ flow_place d labels masks s context (cmd_of d n)
      unfolding flow_place
      branch_place context =
          ap (λ (m : ℕ). first_place (flow_place d labels masks s (bit_and context m) (cmd_of d b)) (flow_place d labels masks s (bit_and context m) (cmd_of d c))) read
          ∙ sym (ap (flow_place d labels masks s context) (branch_tree kind byte test first second))

      pub branch_stops : {p : ℕ} (context : ℕ) → p < commands_max → p ≡ flow_place (design_of image) labels masks s (bit_and context m) (cmd_of (design_of image) b) → p ≡ flow_place (design_of image) labels masks s context (cmd_of (design_of image) n)
      branch_stops context l found = found ∙ sym (place_stops (flow_place d labels masks s (bit_and context m) (cmd_of d c)) (rw found at l)) ∙ branch_place context

      pub branch_goes_on : {p q : ℕ} (context : ℕ) → commands_max ≤ p → p ≡ flow_place (design_of image) labels masks s (bit_and context m) (cmd_of (design_of image) b) → q ≡ flow_place (design_of image) labels masks s (bit_and context m) (cmd_of (design_of image) c) → q ≡ flow_place (design_of image) labels masks s context (cmd_of (design_of image) n)
      branch_goes_on context l found further = further ∙ sym (place_goes_on (flow_place d labels masks s (bit_and context m) (cmd_of d c)) (rw found at l)) ∙ branch_place context

  pub flow_fall :
      {k r l : ℕ} {b : Bool} (context : ℕ)
      → k ≡ 3
      → k ≡ (node_in image x.commands_at n).kind
      → l ≡ (state_in image x.states_at s).label
      → b ≡ has_bit context l
      → r ≡ place_unless b n
      → r ≡ flow_place (design_of image) labels masks s context (cmd_of (design_of image) n)
  unfolding command_kind flow_place
  flow_fall context f e fl fb fr =
      fr
      ∙ ap (λ (b : Bool). place_unless b n) (fb ∙ ap (has_bit context) (own_label fl))
      ∙ sym (ap (flow_place d labels masks s context) (cmd_fall d n (command_kind_of flowing.command falls f e refl)))

  pub flow_goto :
      {k r l : ℕ} {b : Bool} (context : ℕ)
      → k ≡ 4
      → k ≡ (node_in image x.commands_at n).kind
      → l ≡ named_label (relabelled (design_of image) labels) (command_at (design_of image) n).item (command_at (design_of image) n).a (command_at (design_of image) n).b
      → b ≡ has_bit context l
      → r ≡ place_unless b n
      → r ≡ flow_place (design_of image) labels masks s context (cmd_of (design_of image) n)
  unfolding command_kind flow_place
  flow_goto context f e fl fb fr =
      fr
      ∙ ap (λ (b : Bool). place_unless b n) (fb ∙ ap (has_bit context) fl)
      ∙ sym (ap (flow_place d labels masks s context) (cmd_goto d n (command_kind_of flowing.command goes f e refl)))

  pub skip_tree : {k : ℕ} → k ≡ (node_in image x.commands_at n).kind → (k ≡ 1 → ⊥) → (k ≡ 2 → ⊥) → (k ≡ 3 → ⊥) → (k ≡ 4 → ⊥) → (k ≡ 5 → ⊥) → cmd_of (design_of image) n ≡ skip n
  skip_tree {k} e a b c f g = cmd_skip d n (command_kind_of flowing.command skips refl e (skip_kind d n k (command_at d n) a b c f g (command_holds_lem flowing.command refl e)))

  pub flow_skip : {k : ℕ} (context : ℕ) → k ≡ (node_in image x.commands_at n).kind → (k ≡ 1 → ⊥) → (k ≡ 2 → ⊥) → (k ≡ 3 → ⊥) → (k ≡ 4 → ⊥) → (k ≡ 5 → ⊥) → commands_max ≡ flow_place (design_of image) labels masks s context (cmd_of (design_of image) n)
  unfolding flow_place
  flow_skip context e a b c f g = sym (ap (flow_place d labels masks s context) (skip_tree e a b c f g))

pub ruleset flow_laws = (command_place_inside, assigning, condition_gathering, going_goto, own_inside, own_small, named_small, flow_assign, sequence_stops, sequence_goes_on, branch_stops, branch_goes_on, flow_fall, flow_goto, flow_skip)

-- ---- states
module _ {image : List ℕ} {x : Design} (known : RecordsKept image x) where
  state_count : {s : ℕ} → s < x.states → s < length (design_of image).states
  state_count l = let count = states_count known.describes in omega arith

  state_label_is : {s l : ℕ} → s < x.states → l ≡ (state_in image x.states_at s).label → l ≡ state_label (design_of image) s
  state_label_is h e = e ∙ ap (λ (y : State). y.label) (state_in_lem known.describes h)

  -- the scopes of the states below s are known
  pub scopes_below : {scopes : List ℕ} {s : ℕ} → Scopes (design_of image) scopes → s < x.states → ScopesBelow (design_of image) scopes s
  scopes_below table l =
      let below = state_count l in
      record { long = table.long; count = λ q h. table.count q (omega arith); first = λ q h. table.first q (omega arith); second = λ q h. table.second q (omega arith) }

  module _ {s : ℕ} (parameters : ParametersKept (design_of image)) (l : s < x.states) where
    pub label_stands : LabelByte (design_of image) s (state_label (design_of image) s)
    label_stands = state_label_byte known.states parameters s (state_count l)

    pub state_mask_inside : {masks : List ℕ} {k : ℕ} → Masks (design_of image) s masks → k ≡ (state_in image x.states_at s).label → k < 18
    state_mask_inside table e =
        let small = byte_small (labels_few known.describes) table.short label_stands in
        let is = state_label_is l e in
        omega arith

    pub body_tree : {n : ℕ} → n ≡ (state_in image x.states_at s).command → cmd_of (design_of image) n ≡ body_of (design_of image) s
    unfolding body_of
    body_tree fn = ap (cmd_of (design_of image)) (body_is known.describes l fn)

    pub state_flowing :
        {labels masks : List ℕ} {n own : ℕ}
        → LabelsKept (design_of image) labels
        → BodiesKept (design_of image)
        → Masks (design_of image) s masks
        → n ≡ (state_in image x.states_at s).command
        → own ≡ 16 + length (inherited_scope (design_of image) s)
        → Flowing image labels masks x s own n
    state_flowing labelling bodies table e above =
        record {
          known = known;
          labelling = labelling;
          parameters = parameters;
          table = table;
          state = l;
          own_from = above;
          command = command_at_lem known.describes known.commands (body_below known.describes l e known.states) refl;
          scoped = record { shaped = rw (body_tree e) (bodies.shaped s (state_count l)); scoped = rw (body_tree e) (bodies.scoped s (state_count l)) };
        }

    pub state_flow_rule :
        (labels masks : List ℕ) {k n context p : ℕ}
        → k ≡ (state_in image x.states_at s).label
        → n ≡ (state_in image x.states_at s).command
        → context ≡ get_or masks k 0
        → p ≡ flow_place (design_of image) labels masks s context (cmd_of (design_of image) n)
        → p ≡ flow_place (design_of image) labels masks s (get_or masks (state_label (design_of image) s) 0) (body_of (design_of image) s)
    state_flow_rule labels masks fl fn fm given = given ∙ rw (fm, state_label_is l fl, body_tree fn) refl
