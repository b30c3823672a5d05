-- Why the fields of a filed node are found: by its kind a field is the number of a node, which the tables have under its new number, or is as it stands.
use Prim.Native.Nat.{ℕ, zero, suc, ◌≤◌, ◌<◌}
use mathlib.Core.Path.{◌≡◌, refl, sym, ◌∙◌, ap}
use mathlib.Core.List.{List}
use native.Mathlib.Omega.{arith}
use native.Mathlib.Decide.{ℕ_discrete}
use lib.ListN.{length, get_or}
use Rattle.model.specs.Image.{Design as Table, Node, design_of, command_at, expression_at}
use Rattle.model.specs.Kinds.{CommandKind, assigns, sequences, branches, ExpressionKind, Operation, operates, command_kind, expression_kind}
use Rattle.model.specs.Rules.{CommandHolds, ExpressionHolds}
use Rattle.model.proofs.Laws.Kinds.{kind_skips, kind_assigns, kind_sequences, kind_falls, kind_goes, kind_branches, no_command_kind, expression_kinds, kind_constants, kind_reads, no_expression_kind}
use Rattle.design.specs.declared.Design.{Design}
use Rattle.design.specs.Records.{node_in}
use Rattle.design.specs.RecordsAt.{CommandAt, ExpressionAt}
use Rattle.design.specs.Kept.{Structured}
use Rattle.design.proofs.Laws.{expressions_count}
use Rattle.design.proofs.FieldRules.{command_below, same_command, command_kind_is, command_kind_of, a_is, b_is, same_expression, first_is, second_is, expression_kind_is, expression_holds_lem, operation}
use Rattle.renumbering.specs.Renumbering.{renumbered_command, renumbered_expression}
use Rattle.filing_model.specs.Filed.{command_order, expression_order, new_command, new_expression, command_filed, expression_filed}
use Rattle.filing_model.proofs.Counts.{enumerated}
use Rattle.filing_model.proofs.Orders.{commands_enumerated, expressions_enumerated}
use Rattle.filing_steps.specs.Tables.{Numbered}
use Rattle.filing_steps.specs.Fields.{field_of, with_pair}

-- ---- a field by its number
-- what holds of a, b and c holds of each field
by_field : (P : ℕ → Type 0) → P 1 → P 2 → P 3 → (f : ℕ) → 1 ≤ f → f ≤ 3 → P f
by_field P a b c zero low high = absurd (omega arith)
by_field P a b c (suc zero) low high = a
by_field P a b c (suc (suc zero)) low high = b
by_field P a b c (suc (suc (suc zero))) low high = c
by_field P a b c (suc (suc (suc (suc f)))) low high = absurd (omega arith)

-- ---- a node whose parts are a and b
module _ (x : Node) (numbers : List ℕ) (f : ℕ) where
  pub pair_same : {r : ℕ} → f ≡ 3 → r ≡ field_of f x → r ≡ field_of f (with_pair numbers x)
  pair_same q e = e ∙ ap (λ (g : ℕ). field_of g x) q ∙ ap (λ (g : ℕ). field_of g (with_pair numbers x)) (sym q)

  pub pair_inside : {old : ℕ} → (f ≡ 3 → ⊥) → old ≡ field_of f x → 1 ≤ f → f ≤ 3 → x.a < length numbers → x.b < length numbers → old < length numbers
  pair_inside other e low high a b =
      rw e (by_field (λ g. (g ≡ 3 → ⊥) → field_of g x < length numbers) (λ o. a) (λ o. b) (λ o. absurd (o refl)) f low high other)

  pub pair_new : {old r : ℕ} → (f ≡ 3 → ⊥) → r ≡ get_or numbers old 0 → old ≡ field_of f x → 1 ≤ f → f ≤ 3 → r ≡ field_of f (with_pair numbers x)
  pair_new other new e low high =
      new
      ∙ ap (λ (m : ℕ). get_or numbers m 0) e
      ∙ by_field (λ g. (g ≡ 3 → ⊥) → get_or numbers (field_of g x) 0 ≡ field_of g (with_pair numbers x)) (λ o. refl) (λ o. refl) (λ o. absurd (o refl)) f low high other

  -- entries that are new numbers
  pair_as : {a b r : ℕ} → r ≡ field_of f (with_pair numbers x) → get_or numbers x.a 0 ≡ a → get_or numbers x.b 0 ≡ b
      → r ≡ field_of f (record { kind = x.kind; item = x.item; a = a; b = b; c = x.c })
  pair_as e p q = rw (← p, ← q) e

-- ---- fields under new numbers
-- a node as it is filed, were it of a kind
abbrev command_as : Table → CommandKind → Node → Node
command_as d kind y = renumbered_command (λ s. s) (new_command d) (new_expression d) kind y

abbrev expression_as : Table → ExpressionKind → Node → Node
expression_as d kind y = renumbered_expression (λ s. s) (new_command d) (new_expression d) kind y

module _ (d : Table) (y : Node) where
  assign_a : field_of 1 (command_as d assigns y) ≡ new_expression d y.a
  unfolding renumbered_command
  assign_a = refl

  assign_other : (f : ℕ) → (f ≡ 1 → ⊥) → field_of f (command_as d assigns y) ≡ field_of f y
  unfolding renumbered_command
  assign_other zero other = refl
  assign_other (suc zero) other = absurd (other refl)
  assign_other (suc (suc zero)) other = refl
  assign_other (suc (suc (suc f))) other = refl

  sequence_is : command_as d sequences y ≡ (record { kind = y.kind; item = y.item; a = new_command d y.a; b = new_command d y.b; c = y.c })
  unfolding renumbered_command
  sequence_is = refl

  branch_a : field_of 1 (command_as d branches y) ≡ new_expression d (field_of 1 y)
  unfolding renumbered_command
  branch_a = refl

  branch_part : (f : ℕ) → 1 ≤ f → f ≤ 3 → (f ≡ 1 → ⊥) → field_of f (command_as d branches y) ≡ new_command d (field_of f y)
  unfolding renumbered_command
  branch_part =
      by_field (λ f. (f ≡ 1 → ⊥) → field_of f (command_as d branches y) ≡ new_command d (field_of f y)) (λ other. absurd (other refl)) (λ other. refl) (λ other. refl)

  operation_is : (o : Operation) → expression_as d (operates o) y ≡ (record { kind = y.kind; item = y.item; a = new_expression d y.a; b = new_expression d y.b; c = y.c })
  unfolding renumbered_expression
  operation_is o = refl

  -- an expression of a lower kind is as it was
  plain_is : {k : ℕ} → k < 2 → expression_as d (expression_kind k) y ≡ y
  unfolding renumbered_expression
  plain_is {k} l = go (ℕ_discrete k 0)
    where
      go : Dec (k ≡ 0) → expression_as d (expression_kind k) y ≡ y
      go (yes e) = rw (kind_constants e)
      go (no e) = rw (kind_reads {k = k} (omega arith))

  -- and so is any other command, since states keep their numbers
  other_is : {k : ℕ} → (k ≡ 1 → ⊥) → (k ≡ 2 → ⊥) → (k ≡ 5 → ⊥) → command_as d (command_kind k) y ≡ y
  unfolding renumbered_command
  other_is {k} one two five = go (ℕ_discrete k 0) (ℕ_discrete k 3) (ℕ_discrete k 4)
    where
      go : Dec (k ≡ 0) → Dec (k ≡ 3) → Dec (k ≡ 4) → command_as d (command_kind k) y ≡ y
      go (yes e) h i = rw (kind_skips e)
      go (no e) (yes h) i = rw (kind_falls h)
      go (no e) (no h) (yes i) = rw (kind_goes i)
      go (no e) (no h) (no i) = rw (no_command_kind {k = k} (omega arith))

-- ---- new numbers
module _ {image : List ℕ} {x : Design} (known : Structured image x) {numbers : List ℕ} where
  pub command_numbered : {m : ℕ} → Numbered (command_order (design_of image)) numbers → m < length (design_of image).commands → m < length numbers
  command_numbered {m} table l = table.inside m (enumerated (commands_enumerated (design_of image) known.structure) m l)

  pub command_new : {m r : ℕ} → Numbered (command_order (design_of image)) numbers → m < length (design_of image).commands → r ≡ get_or numbers m 0 → r ≡ new_command (design_of image) m
  command_new {m} table l e = e ∙ table.entry m (enumerated (commands_enumerated (design_of image) known.structure) m l)

  expression_numbered : {m : ℕ} → Numbered (expression_order (design_of image)) numbers → m < length (design_of image).expressions → m < length numbers
  expression_numbered {m} table l = table.inside m (enumerated (expressions_enumerated (design_of image) known.structure) m l)

  expression_new : {m r : ℕ} → Numbered (expression_order (design_of image)) numbers → m < length (design_of image).expressions → r ≡ get_or numbers m 0 → r ≡ new_expression (design_of image) m
  expression_new {m} table l e = e ∙ table.entry m (enumerated (expressions_enumerated (design_of image) known.structure) m l)

-- ---- a command
-- its kind by the kind byte
module _ {image : List ℕ} {x : Design} {place n k : ℕ} (here : CommandAt image x place n) where
  pub is_assignment : k ≡ 1 → k ≡ (node_in image place n).kind → command_kind (command_at (design_of image) n).kind ≡ assigns
  is_assignment q p = command_kind_of here assigns q p (kind_assigns refl)

  pub is_sequence : k ≡ 2 → k ≡ (node_in image place n).kind → command_kind (command_at (design_of image) n).kind ≡ sequences
  is_sequence q p = command_kind_of here sequences q p (kind_sequences refl)

  pub is_branch : k ≡ 5 → k ≡ (node_in image place n).kind → command_kind (command_at (design_of image) n).kind ≡ branches
  is_branch q p = command_kind_of here branches q p (kind_branches refl)

  pub other_same : (f : ℕ) {r : ℕ} → (k ≡ 1 → ⊥) → (k ≡ 2 → ⊥) → (k ≡ 5 → ⊥) → k ≡ (node_in image place n).kind → r ≡ field_of f (node_in image place n)
      → r ≡ field_of f (command_filed (design_of image) (command_at (design_of image) n))
  other_same f one two five p e =
      let y = command_at (design_of image) n in
      let kind : y.kind ≡ k = command_kind_is here refl p in
      e
      ∙ ap (field_of f) (same_command here)
      ∙ ap (field_of f) (sym (other_is (design_of image) y one two five))
      ∙ ap (λ (j : ℕ). field_of f (command_as (design_of image) (command_kind j) y)) (sym kind)

module _ {image : List ℕ} {x : Design} {place n : ℕ} (known : Structured image x) (here : CommandAt image x place n) where
  abbrev own : Node
  own = command_at (design_of image) n

  holds : (c : CommandKind) → command_kind own.kind ≡ c → CommandHolds (design_of image) n c own
  holds c e = rw e at (known.structure.commands n (command_below here))

  -- the fields of a filed command by its kind
  filed_as : (f : ℕ) (c : CommandKind) → command_kind own.kind ≡ c
      → field_of f (command_as (design_of image) c own) ≡ field_of f (command_filed (design_of image) own)
  filed_as f c e = ap (λ (k : CommandKind). field_of f (command_as (design_of image) k own)) (sym e)

  field_is : (f : ℕ) {r : ℕ} → r ≡ field_of f (node_in image place n) → r ≡ field_of f own
  field_is f e = e ∙ ap (field_of f) (same_command here)

  lower : {m : ℕ} → m < n → m < length (design_of image).commands
  lower l = let below = command_below here in omega arith

  -- an assignment
  value_below : {a : ℕ} → a ≡ (node_in image place n).a → command_kind own.kind ≡ assigns → a < length (design_of image).expressions
  value_below e kind = rw (a_is here e) (holds assigns kind).1

  pub value_inside : {a : ℕ} {numbers : List ℕ} → a ≡ (node_in image place n).a → command_kind own.kind ≡ assigns → Numbered (expression_order (design_of image)) numbers → a < length numbers
  value_inside e kind table = expression_numbered known table (value_below e kind)

  pub value_new : {f a r : ℕ} {numbers : List ℕ} → f ≡ 1 → r ≡ get_or numbers a 0 → a ≡ (node_in image place n).a → command_kind own.kind ≡ assigns
      → Numbered (expression_order (design_of image)) numbers
      → r ≡ field_of f (command_filed (design_of image) own)
  value_new {f} q new e kind table =
      expression_new known table (value_below e kind) new
      ∙ ap (new_expression (design_of image)) (a_is here e)
      ∙ sym (assign_a (design_of image) own)
      ∙ filed_as 1 assigns kind
      ∙ ap (λ (g : ℕ). field_of g (command_filed (design_of image) own)) (sym q)

  pub assigned_same : {f r : ℕ} → (f ≡ 1 → ⊥) → r ≡ field_of f (node_in image place n) → command_kind own.kind ≡ assigns → r ≡ field_of f (command_filed (design_of image) own)
  assigned_same {f} other e kind =
      field_is f e ∙ sym (assign_other (design_of image) own f other) ∙ filed_as f assigns kind

  -- a sequence
  part_below : {m old : ℕ} → old ≡ m → m < n → old < length (design_of image).commands
  part_below e l = rw e (lower l)

  pub sequence_a : {k : ℕ} {numbers : List ℕ} → k ≡ 2 → k ≡ (node_in image place n).kind → Numbered (command_order (design_of image)) numbers → (node_in image place n).a < length numbers
  sequence_a q p table = command_numbered known table (part_below (a_is here refl) (holds sequences (is_sequence here q p)).1)

  pub sequence_b : {k : ℕ} {numbers : List ℕ} → k ≡ 2 → k ≡ (node_in image place n).kind → Numbered (command_order (design_of image)) numbers → (node_in image place n).b < length numbers
  sequence_b q p table = command_numbered known table (part_below (b_is here refl) (holds sequences (is_sequence here q p)).2)

  pub sequence_new : (f : ℕ) {k r : ℕ} {numbers : List ℕ} → k ≡ 2 → k ≡ (node_in image place n).kind → Numbered (command_order (design_of image)) numbers
      → r ≡ field_of f (with_pair numbers (node_in image place n))
      → r ≡ field_of f (command_filed (design_of image) own)
  sequence_new f {k} {r} {numbers} q p table e =
      let kind = is_sequence here q p in
      let found : r ≡ field_of f (with_pair numbers own) = e ∙ ap (λ (y : Node). field_of f (with_pair numbers y)) (same_command here) in
      pair_as own numbers f found (command_new known table (lower (holds sequences kind).1) refl) (command_new known table (lower (holds sequences kind).2) refl)
      ∙ ap (field_of f) (sym (sequence_is (design_of image) own))
      ∙ filed_as f sequences kind

  -- an if
  condition_is : {f old : ℕ} → f ≡ 1 → old ≡ field_of f (node_in image place n) → old ≡ own.a
  condition_is q e = field_is 1 (e ∙ ap (λ (g : ℕ). field_of g (node_in image place n)) q)

  condition_below : {f old : ℕ} → f ≡ 1 → old ≡ field_of f (node_in image place n) → command_kind own.kind ≡ branches → old < length (design_of image).expressions
  condition_below q e kind = rw (condition_is q e) (holds branches kind).1

  pub condition_inside : {f old : ℕ} {numbers : List ℕ} → f ≡ 1 → old ≡ field_of f (node_in image place n) → command_kind own.kind ≡ branches
      → Numbered (expression_order (design_of image)) numbers
      → old < length numbers
  condition_inside q e kind table = expression_numbered known table (condition_below q e kind)

  pub condition_new : {f old r : ℕ} {numbers : List ℕ} → f ≡ 1 → r ≡ get_or numbers old 0 → old ≡ field_of f (node_in image place n) → command_kind own.kind ≡ branches
      → Numbered (expression_order (design_of image)) numbers
      → r ≡ field_of f (command_filed (design_of image) own)
  condition_new q new e kind table =
      expression_new known table (condition_below q e kind) new
      ∙ ap (new_expression (design_of image)) (condition_is q e)
      ∙ sym (branch_a (design_of image) own)
      ∙ filed_as 1 branches kind
      ∙ ap (λ (g : ℕ). field_of g (command_filed (design_of image) own)) (sym q)

  branch_below : {f old : ℕ} → (f ≡ 1 → ⊥) → old ≡ field_of f (node_in image place n) → 1 ≤ f → f ≤ 3 → command_kind own.kind ≡ branches → old < length (design_of image).commands
  branch_below {f} other e low high kind =
      rw (field_is f e) (lower (by_field (λ g. (g ≡ 1 → ⊥) → field_of g own < n) (λ o. absurd (o refl)) (λ o. (holds branches kind).2) (λ o. (holds branches kind).3) f low high other))

  pub branch_inside : {f old : ℕ} {numbers : List ℕ} → (f ≡ 1 → ⊥) → old ≡ field_of f (node_in image place n) → 1 ≤ f → f ≤ 3 → command_kind own.kind ≡ branches
      → Numbered (command_order (design_of image)) numbers
      → old < length numbers
  branch_inside other e low high kind table = command_numbered known table (branch_below other e low high kind)

  pub branch_new : {f old r : ℕ} {numbers : List ℕ} → (f ≡ 1 → ⊥) → r ≡ get_or numbers old 0 → old ≡ field_of f (node_in image place n) → 1 ≤ f → f ≤ 3 → command_kind own.kind ≡ branches
      → Numbered (command_order (design_of image)) numbers
      → r ≡ field_of f (command_filed (design_of image) own)
  branch_new {f} other new e low high kind table =
      command_new known table (branch_below other e low high kind) new
      ∙ ap (new_command (design_of image)) (field_is f e)
      ∙ sym (branch_part (design_of image) own f low high other)
      ∙ filed_as f branches kind

-- ---- an expression
module _ {image : List ℕ} {x : Design} {place e : ℕ} (here : ExpressionAt image x place e) where
  abbrev expression : Node
  expression = expression_at (design_of image) e

  expression_field : (f : ℕ) {r : ℕ} → r ≡ field_of f (node_in image place e) → r ≡ field_of f expression
  expression_field f h = h ∙ ap (field_of f) (same_expression here)

  expression_below : e < length (design_of image).expressions
  expression_below = let node = here.node in omega (arith, expressions_count here.describes)

  -- a kind that is none would not be kept, so one of 2 or more is an operation
  pub no_kind : {k : ℕ} → expression_kinds ≤ k → k ≡ (node_in image place e).kind → ⊥
  no_kind {k} l p = rw (no_expression_kind {k = k} l) at (expression_holds_lem here p)

  operation_here : {k : ℕ} → 2 ≤ k → k < expression_kinds → k ≡ (node_in image place e).kind → (o : Operation) × (expression_kind expression.kind ≡ operates o)
  operation_here low l p = let found = operation here l (omega arith) (λ q. omega arith) p in (found.0, found.1)

  pub plain_same : (f : ℕ) {k r : ℕ} → k < 2 → k ≡ (node_in image place e).kind → r ≡ field_of f (node_in image place e) → r ≡ field_of f (expression_filed (design_of image) expression)
  plain_same f {k} l p h =
      let kind : expression.kind ≡ k = expression_kind_is here p in
      expression_field f h
      ∙ ap (field_of f) (sym (plain_is (design_of image) expression l))
      ∙ ap (λ (j : ℕ). field_of f (expression_as (design_of image) (expression_kind j) expression)) (sym kind)

  module _ (known : Structured image x) {k : ℕ} {numbers : List ℕ} (low : 2 ≤ k) (high : k < expression_kinds) (p : k ≡ (node_in image place e).kind) (table : Numbered (expression_order (design_of image)) numbers) where
    is : expression_kind expression.kind ≡ operates (operation_here low high p).0
    is = (operation_here low high p).1

    operands : (expression.a < e) × (expression.b < e)
    operands =
        let holds : ExpressionHolds (design_of image) e (operates (operation_here low high p).0) expression = rw is at (known.structure.expressions e expression_below) in
        (holds.1, holds.2)

    operand : {m old : ℕ} → old ≡ m → m < e → old < length (design_of image).expressions
    operand q l = let own = expression_below in omega arith

    pub operation_a : (node_in image place e).a < length numbers
    operation_a = expression_numbered known table (operand (first_is here refl) operands.0)

    pub operation_b : (node_in image place e).b < length numbers
    operation_b = expression_numbered known table (operand (second_is here refl) operands.1)

    pub operation_new : (f : ℕ) {r : ℕ} → r ≡ field_of f (with_pair numbers (node_in image place e)) → r ≡ field_of f (expression_filed (design_of image) expression)
    operation_new f {r} h =
        let found : r ≡ field_of f (with_pair numbers expression) = h ∙ ap (λ (y : Node). field_of f (with_pair numbers y)) (same_expression here) in
        pair_as expression numbers f found (expression_new known table (operand refl operands.0) refl) (expression_new known table (operand refl operands.1) refl)
        ∙ ap (field_of f) (sym (operation_is (design_of image) expression (operation_here low high p).0))
        ∙ ap (λ (k : ExpressionKind). field_of f (expression_as (design_of image) k expression)) (sym is)
