-- What the fields of a record by its place hold: those of a state; and, once its record was judged, a node's kind by the kind byte, and that its parts are nodes of lower numbers.
use Prim.Native.Nat.{ℕ, ◌+◌, ◌≤◌, ◌<◌}
use mathlib.Core.Path.{◌≡◌, sym, ◌∙◌, ap}
use mathlib.Core.Logic.{inl, inr}
use mathlib.Core.List.{List}
use native.Mathlib.Omega.{arith}
use lib.ListN.{length}
use Rattle.model.specs.Limits.{parameter_register, binding_length}
use Rattle.model.specs.Image.{Design as Table, State, Node, design_of, state_at, command_at, expression_at}
use Rattle.model.specs.Kinds.{CommandKind, command_kind, Operation, operates, expression_kind}
use Rattle.model.specs.Rules.{RegisterByte, CommandHolds, ExpressionHolds}
use Rattle.model.proofs.Laws.Kinds.{expression_kinds, kind_operates}
use Rattle.model.proofs.Exact.Records.{state_iff, command_iff, expression_iff}
use Rattle.design.specs.declared.Design.{Design}
use Rattle.design.specs.Records.{state_in, node_in, state_end, node_end}
use Rattle.design.specs.Describes.{Describes}
use Rattle.design.specs.Kept.{StatesKept, CommandsKept, ExpressionsKept}
use Rattle.design.specs.RecordsAt.{StateAt, CommandAt, ExpressionAt}
use Rattle.design.proofs.Laws.{registers_count, states_count, commands_count, expressions_count, registers_most, state_inside, command_inside, expression_inside, state_in_lem, command_in, expression_in}

-- ---- a state
module _ {image : List ℕ} {x : Design} {place s : ℕ} (here : StateAt image x place s) where
  pub state_place_inside : state_end place s ≤ length image
  state_place_inside = rw here.begins (state_inside here.describes here.state)

  -- the fields that the accessors read are the state's
  same_state : state_in image place s ≡ state_at (design_of image) s
  same_state = rw here.begins (state_in_lem here.describes here.state)

  pub parent_is : {p : ℕ} → p ≡ (state_in image place s).parent → p ≡ (state_at (design_of image) s).parent
  parent_is f = f ∙ ap (λ (y : State). y.parent) same_state

  pub label_is : {l : ℕ} → l ≡ (state_in image place s).label → l ≡ (state_at (design_of image) s).label
  label_is f = f ∙ ap (λ (y : State). y.label) same_state

-- its command, and that it is one
module _ {image : List ℕ} {x : Design} {s n : ℕ} (d : Describes image x) (l : s < x.states) (body : n ≡ (state_in image x.states_at s).command) where
  pub body_is : n ≡ (state_at (design_of image) s).command
  body_is = body ∙ ap (λ (y : State). y.command) (state_in_lem d l)

  pub body_below : StatesKept (design_of image) → n < x.commands
  body_below kept =
      let states = states_count d in
      let commands = commands_count d in
      let is = body_is in
      let below = ((state_iff (design_of image) s).0 (kept.kept s (omega arith))).command in
      omega arith

-- ---- a register byte
byte_register : (y : Table) {r : ℕ} → RegisterByte y r → r < parameter_register → r < length y.registers
byte_register y {r} (inl h) l = h
byte_register y {r} (inr h) l = let least = h.at_least in absurd (omega arith)

byte_below : {image : List ℕ} {x : Design} {r : ℕ} → Describes image x → RegisterByte (design_of image) r → r < parameter_register + binding_length
byte_below d (inl h) = let count = registers_count d in let few = registers_most d in omega arith
byte_below d (inr h) = h.below

-- ---- a command
pub command_at_lem : {image : List ℕ} {x : Design} {place n : ℕ} → Describes image x → CommandsKept (design_of image) → n < x.commands → place ≡ x.commands_at → CommandAt image x place n
command_at_lem {n = n} d kept l begins = let count = commands_count d in record { describes = d; node = l; kept = kept.kept n (omega arith); begins = begins }

module _ {image : List ℕ} {x : Design} {place n : ℕ} (here : CommandAt image x place n) where
  pub command_place_inside : node_end place n ≤ length image
  command_place_inside = rw here.begins (command_inside here.describes here.node)

  pub command_below : n < length (design_of image).commands
  command_below = let count = commands_count here.describes in let node = here.node in omega arith

  -- the fields that the accessors read are the command's
  pub same_command : node_in image place n ≡ command_at (design_of image) n
  same_command = rw here.begins (command_in here.describes here.node)

  pub command_kind_is : {k m : ℕ} → k ≡ m → k ≡ (node_in image place n).kind → (command_at (design_of image) n).kind ≡ m
  command_kind_is q p = sym (p ∙ ap (λ (y : Node). y.kind) same_command) ∙ q

  pub command_kind_of : {k m : ℕ} (c : CommandKind) → k ≡ m → k ≡ (node_in image place n).kind → command_kind m ≡ c → command_kind (command_at (design_of image) n).kind ≡ c
  command_kind_of c q p e = ap command_kind (command_kind_is q p) ∙ e

  pub item_is : {r : ℕ} → r ≡ (node_in image place n).item → r ≡ (command_at (design_of image) n).item
  item_is f = f ∙ ap (λ (y : Node). y.item) same_command

  pub a_is : {a : ℕ} → a ≡ (node_in image place n).a → a ≡ (command_at (design_of image) n).a
  a_is f = f ∙ ap (λ (y : Node). y.a) same_command

  pub b_is : {b : ℕ} → b ≡ (node_in image place n).b → b ≡ (command_at (design_of image) n).b
  b_is f = f ∙ ap (λ (y : Node). y.b) same_command

  pub c_is : {c : ℕ} → c ≡ (node_in image place n).c → c ≡ (command_at (design_of image) n).c
  c_is f = f ∙ ap (λ (y : Node). y.c) same_command

  pub command_holds_lem : {k m : ℕ} → k ≡ m → k ≡ (node_in image place n).kind → CommandHolds (design_of image) n (command_kind m) (command_at (design_of image) n)
  command_holds_lem q p = rw (command_kind_is q p) at ((command_iff (design_of image) n).0 here.kept)

  -- ---- the nodes, the register and the state that it names
  pub assigned_byte : {k r : ℕ} → k ≡ 1 → k ≡ (node_in image place n).kind → r ≡ (node_in image place n).item → RegisterByte (design_of image) r
  unfolding command_kind
  assigned_byte q p f = rw (item_is f) (command_holds_lem q p).0

  -- a byte that names no parameter is a register's number
  pub assigned_register : {k r : ℕ} → k ≡ 1 → k ≡ (node_in image place n).kind → r ≡ (node_in image place n).item → r < parameter_register → r < length (design_of image).registers
  assigned_register q p f l = byte_register (design_of image) (assigned_byte q p f) l

  pub assigned_named : {k r : ℕ} → k ≡ 1 → k ≡ (node_in image place n).kind → r ≡ (node_in image place n).item → r < parameter_register + binding_length
  assigned_named q p f = byte_below here.describes (assigned_byte q p f)

  pub assigned_expression : {k e : ℕ} → k ≡ 1 → k ≡ (node_in image place n).kind → e ≡ (node_in image place n).a → e < length (design_of image).expressions
  unfolding command_kind
  assigned_expression q p f = rw (a_is f) (command_holds_lem q p).1

  pub named_state : {k t : ℕ} → k ≡ 4 → k ≡ (node_in image place n).kind → t ≡ (node_in image place n).item → t < length (design_of image).states
  unfolding command_kind
  named_state q p f = rw (item_is f) (command_holds_lem q p).0

  pub condition : {k e : ℕ} → k ≡ 5 → k ≡ (node_in image place n).kind → e ≡ (node_in image place n).a → e < length (design_of image).expressions
  unfolding command_kind
  condition q p f = rw (a_is f) (command_holds_lem q p).1

  pub sequence_a_below : {k a : ℕ} → k ≡ 2 → k ≡ (node_in image place n).kind → a ≡ (node_in image place n).a → a < n
  unfolding command_kind
  sequence_a_below q p f = rw (a_is f) (command_holds_lem q p).1

  pub sequence_b_below : {k b : ℕ} → k ≡ 2 → k ≡ (node_in image place n).kind → b ≡ (node_in image place n).b → b < n
  unfolding command_kind
  sequence_b_below q p f = rw (b_is f) (command_holds_lem q p).2

  pub branch_b_below : {k b : ℕ} → k ≡ 5 → k ≡ (node_in image place n).kind → b ≡ (node_in image place n).b → b < n
  unfolding command_kind
  branch_b_below q p f = rw (b_is f) (command_holds_lem q p).2

  pub branch_c_below : {k c : ℕ} → k ≡ 5 → k ≡ (node_in image place n).kind → c ≡ (node_in image place n).c → c < n
  unfolding command_kind
  branch_c_below q p f = rw (c_is f) (command_holds_lem q p).3

  -- ---- a part's number falls, as a recursion's measure
  pub sequence_a_falls : {k a t : ℕ} → k ≡ 2 → k ≡ (node_in image place n).kind → a ≡ (node_in image place n).a → n ≡ t → a < t
  sequence_a_falls q p f m = rw m at (sequence_a_below q p f)

  pub sequence_b_falls : {k b t : ℕ} → k ≡ 2 → k ≡ (node_in image place n).kind → b ≡ (node_in image place n).b → n ≡ t → b < t
  sequence_b_falls q p f m = rw m at (sequence_b_below q p f)

  pub branch_b_falls : {k b t : ℕ} → k ≡ 5 → k ≡ (node_in image place n).kind → b ≡ (node_in image place n).b → n ≡ t → b < t
  branch_b_falls q p f m = rw m at (branch_b_below q p f)

  pub branch_c_falls : {k c t : ℕ} → k ≡ 5 → k ≡ (node_in image place n).kind → c ≡ (node_in image place n).c → n ≡ t → c < t
  branch_c_falls q p f m = rw m at (branch_c_below q p f)

  -- a lower command
  pub lower_command : {m : ℕ} → CommandsKept (design_of image) → m < n → CommandAt image x place m
  lower_command kept l = let node = here.node in command_at_lem here.describes kept (omega arith) here.begins

-- ---- an expression
pub expression_at_lem : {image : List ℕ} {x : Design} {place e : ℕ} → Describes image x → ExpressionsKept (design_of image) → e < x.expressions → place ≡ x.expressions_at → ExpressionAt image x place e
expression_at_lem {e = e} d kept l begins = let count = expressions_count d in record { describes = d; node = l; kept = kept.kept e (omega arith); begins = begins }

module _ {image : List ℕ} {x : Design} {place e : ℕ} (here : ExpressionAt image x place e) where
  pub expression_place_inside : node_end place e ≤ length image
  expression_place_inside = rw here.begins (expression_inside here.describes here.node)

  pub same_expression : node_in image place e ≡ expression_at (design_of image) e
  same_expression = rw here.begins (expression_in here.describes here.node)

  pub expression_kind_is : {k : ℕ} → k ≡ (node_in image place e).kind → (expression_at (design_of image) e).kind ≡ k
  expression_kind_is p = sym (p ∙ ap (λ (y : Node). y.kind) same_expression)

  pub read_is : {r : ℕ} → r ≡ (node_in image place e).item → r ≡ (expression_at (design_of image) e).item
  read_is f = f ∙ ap (λ (y : Node). y.item) same_expression

  pub first_is : {a : ℕ} → a ≡ (node_in image place e).a → a ≡ (expression_at (design_of image) e).a
  first_is f = f ∙ ap (λ (y : Node). y.a) same_expression

  pub second_is : {b : ℕ} → b ≡ (node_in image place e).b → b ≡ (expression_at (design_of image) e).b
  second_is f = f ∙ ap (λ (y : Node). y.b) same_expression

  pub expression_holds_lem : {k : ℕ} → k ≡ (node_in image place e).kind → ExpressionHolds (design_of image) e (expression_kind k) (expression_at (design_of image) e)
  expression_holds_lem p = rw (expression_kind_is p) at ((expression_iff (design_of image) e).0 here.kept)

  pub read_byte : {k r : ℕ} → k ≡ 1 → k ≡ (node_in image place e).kind → r ≡ (node_in image place e).item → RegisterByte (design_of image) r
  unfolding expression_kind
  read_byte q p f = rw (read_is f) (rw q at (expression_holds_lem p)).0

  pub read_register : {k r : ℕ} → k ≡ 1 → k ≡ (node_in image place e).kind → r ≡ (node_in image place e).item → r < parameter_register → r < length (design_of image).registers
  read_register q p f l = byte_register (design_of image) (read_byte q p f) l

  pub read_named : {k r : ℕ} → k ≡ 1 → k ≡ (node_in image place e).kind → r ≡ (node_in image place e).item → r < parameter_register + binding_length
  read_named q p f = byte_below here.describes (read_byte q p f)

  -- the kind byte of an operation
  pub operation : {k : ℕ} → k < expression_kinds → 1 ≤ k → (k ≡ 1 → ⊥) → k ≡ (node_in image place e).kind → (o : Operation) × (expression_kind (expression_at (design_of image) e).kind ≡ operates o)
  operation u l other p =
      let found = kind_operates (λ z. omega arith) other u in
      (found.0, ap expression_kind (expression_kind_is p) ∙ found.1)

  operation_holds : {k : ℕ} → k < expression_kinds → 1 ≤ k → (k ≡ 1 → ⊥) → k ≡ (node_in image place e).kind → (o : Operation) × ExpressionHolds (design_of image) e (operates o) (expression_at (design_of image) e)
  operation_holds u l other p = let o = operation u l other p in (o.0, rw o.1 at ((expression_iff (design_of image) e).0 here.kept))

  pub operand_a_below : {k a : ℕ} → k < expression_kinds → 1 ≤ k → (k ≡ 1 → ⊥) → k ≡ (node_in image place e).kind → a ≡ (node_in image place e).a → a < e
  operand_a_below u l other p f = rw (first_is f) (operation_holds u l other p).1.1

  pub operand_b_below : {k b : ℕ} → k < expression_kinds → 1 ≤ k → (k ≡ 1 → ⊥) → k ≡ (node_in image place e).kind → b ≡ (node_in image place e).b → b < e
  operand_b_below u l other p f = rw (second_is f) (operation_holds u l other p).1.2

  pub operand_a_falls : {k a t : ℕ} → k < expression_kinds → 1 ≤ k → (k ≡ 1 → ⊥) → k ≡ (node_in image place e).kind → a ≡ (node_in image place e).a → e ≡ t → a < t
  operand_a_falls u l other p f m = rw m at (operand_a_below u l other p f)

  pub operand_b_falls : {k b t : ℕ} → k < expression_kinds → 1 ≤ k → (k ≡ 1 → ⊥) → k ≡ (node_in image place e).kind → b ≡ (node_in image place e).b → e ≡ t → b < t
  operand_b_falls u l other p f m = rw m at (operand_b_below u l other p f)

  -- a lower expression
  pub lower_expression : {m : ℕ} → ExpressionsKept (design_of image) → m < e → ExpressionAt image x place m
  lower_expression kept l = let node = here.node in expression_at_lem here.describes kept (omega arith) here.begins
