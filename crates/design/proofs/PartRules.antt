-- The parts of a node, from the bytes at its place: its kind byte says which fields number parts, and the rules of its record say that each of them has an entry in a table of its family.
use Prim.Native.Nat.{ℕ, ◌≤◌, ◌<◌}
use mathlib.Core.Path.{◌≡◌, refl, sym, ◌∙◌, ap}
use mathlib.Core.Logic.{◌⊎◌, inl, inr, ⊎_elim}
use mathlib.Core.List.{List, [], ◌∷◌}
use native.Mathlib.Omega.{arith}
use Rattle.model.specs.Image.{Node, design_of, command_at, expression_at}
use Rattle.model.specs.Kinds.{CommandKind, skips, assigns, sequences, falls, goes, branches, unknown_command, ExpressionKind, constants, reads, unknown_expression, Operation, operates, command_kind, expression_kind}
use Rattle.model.specs.Nodes.{command_parts, expressions_of, expression_parts, parts_of, values_of, operands_of}
use Rattle.model.proofs.Laws.Indices.{below_suc}
use Rattle.model.proofs.Laws.Kinds.{kind_assigns, kind_sequences, kind_branches, assigns_number, sequences_number, branches_number, expression_kinds, no_operation_zero, no_operation_one, no_operation_above}
use Rattle.design.specs.declared.Design.{Design}
use Rattle.design.specs.Records.{state_in, node_in}
use Rattle.design.specs.Describes.{Describes}
use Rattle.design.specs.Kept.{StatesKept}
use Rattle.design.specs.RecordsAt.{CommandAt, ExpressionAt}
use Rattle.design.proofs.Laws.{expressions_count}
use Rattle.design.proofs.FieldRules.{body_below, command_kind_is, command_kind_of, a_is, b_is, c_is, assigned_expression, condition, sequence_a_below, sequence_b_below, branch_b_below, branch_c_below, expression_kind_is, first_is, second_is, operation, operand_a_below, operand_b_below}

-- ---- by the kind
two_parts : {xs : List ℕ} {a b p q : ℕ} → xs ≡ p ∷ q ∷ [] → a ≡ p → b ≡ q → xs ≡ a ∷ b ∷ []
two_parts e f g = rw (e, ← f, ← g) refl

one_part : {xs : List ℕ} {a p : ℕ} → xs ≡ p ∷ [] → a ≡ p → xs ≡ a ∷ []
one_part e f = rw (e, ← f) refl

parts_of_sequence : {kind : CommandKind} (x : Node) → kind ≡ sequences → command_parts kind x ≡ x.a ∷ x.b ∷ []
unfolding command_parts
parts_of_sequence x e = rw e

parts_of_branch : {kind : CommandKind} (x : Node) → kind ≡ branches → command_parts kind x ≡ x.b ∷ x.c ∷ []
unfolding command_parts
parts_of_branch x e = rw e

parts_of_others : (kind : CommandKind) (x : Node) → (kind ≡ sequences → ⊥) → (kind ≡ branches → ⊥) → command_parts kind x ≡ []
unfolding command_parts
parts_of_others skips x s b = refl
parts_of_others assigns x s b = refl
parts_of_others sequences x s b = absurd (s refl)
parts_of_others falls x s b = refl
parts_of_others goes x s b = refl
parts_of_others branches x s b = absurd (b refl)
parts_of_others unknown_command x s b = refl

value_of_assign : {kind : CommandKind} (x : Node) → kind ≡ assigns → expressions_of kind x ≡ x.a ∷ []
unfolding expressions_of
value_of_assign x e = rw e

value_of_branch : {kind : CommandKind} (x : Node) → kind ≡ branches → expressions_of kind x ≡ x.a ∷ []
unfolding expressions_of
value_of_branch x e = rw e

values_of_others : (kind : CommandKind) (x : Node) → (kind ≡ assigns → ⊥) → (kind ≡ branches → ⊥) → expressions_of kind x ≡ []
unfolding expressions_of
values_of_others skips x a b = refl
values_of_others assigns x a b = absurd (a refl)
values_of_others sequences x a b = refl
values_of_others falls x a b = refl
values_of_others goes x a b = refl
values_of_others branches x a b = absurd (b refl)
values_of_others unknown_command x a b = refl

operands_of_operation : {kind : ExpressionKind} {o : Operation} (x : Node) → kind ≡ operates o → expression_parts kind x ≡ x.a ∷ x.b ∷ []
unfolding expression_parts
operands_of_operation x e = rw e

operands_of_others : (kind : ExpressionKind) (x : Node) → ((o : Operation) → kind ≡ operates o → ⊥) → expression_parts kind x ≡ []
unfolding expression_parts
operands_of_others constants x h = refl
operands_of_others reads x h = refl
operands_of_others (operates o) x h = absurd (h o refl)
operands_of_others unknown_expression x h = refl

-- ---- a command's parts and its expression, from its kind byte
module _ {image : List ℕ} {x : Design} {place n k : ℕ} (here : CommandAt image x place n) (same : k ≡ (node_in image place n).kind) where
  kind_of : (c : CommandKind) → command_kind k ≡ c → command_kind (command_at (design_of image) n).kind ≡ c
  kind_of c e = command_kind_of here c refl same e

  byte : k ≡ (command_at (design_of image) n).kind
  byte = sym (command_kind_is here refl same)

  pub sequence_parts : {a b : ℕ} → k ≡ 2 → a ≡ (node_in image place n).a → b ≡ (node_in image place n).b → parts_of (design_of image) n ≡ a ∷ b ∷ []
  sequence_parts e p q = two_parts (parts_of_sequence (command_at (design_of image) n) (kind_of sequences (kind_sequences e))) (a_is here p) (b_is here q)

  pub branch_parts : {a b : ℕ} → k ≡ 5 → a ≡ (node_in image place n).b → b ≡ (node_in image place n).c → parts_of (design_of image) n ≡ a ∷ b ∷ []
  branch_parts e p q = two_parts (parts_of_branch (command_at (design_of image) n) (kind_of branches (kind_branches e))) (b_is here p) (c_is here q)

  pub no_parts : (k ≡ 2 → ⊥) → (k ≡ 5 → ⊥) → parts_of (design_of image) n ≡ []
  no_parts two five =
      parts_of_others
      (command_kind (command_at (design_of image) n).kind)
      (command_at (design_of image) n)
      (λ e. two (sequences_number k (ap command_kind byte ∙ e)))
      (λ e. five (branches_number k (ap command_kind byte ∙ e)))

  pub one_value : {a : ℕ} → (k ≡ 1) ⊎ (k ≡ 5) → a ≡ (node_in image place n).a → values_of (design_of image) n ≡ a ∷ []
  one_value e p =
      ⊎_elim
      (λ (one : k ≡ 1). one_part (value_of_assign (command_at (design_of image) n) (kind_of assigns (kind_assigns one))) (a_is here p))
      (λ (five : k ≡ 5). one_part (value_of_branch (command_at (design_of image) n) (kind_of branches (kind_branches five))) (a_is here p))
      e

  pub no_value : ((k ≡ 1) ⊎ (k ≡ 5) → ⊥) → values_of (design_of image) n ≡ []
  no_value h =
      values_of_others
      (command_kind (command_at (design_of image) n).kind)
      (command_at (design_of image) n)
      (λ e. h (inl (assigns_number k (ap command_kind byte ∙ e))))
      (λ e. h (inr (branches_number k (ap command_kind byte ∙ e))))

  -- the expression has an entry in a table of the expressions, of which only the length matters
  pub value_inside : {a long : ℕ} → (k ≡ 1) ⊎ (k ≡ 5) → a ≡ (node_in image place n).a → x.expressions ≤ long → a < long
  value_inside e p l =
      let below = ⊎_elim (λ (one : k ≡ 1). assigned_expression here one same p) (λ (five : k ≡ 5). condition here five same p) e in
      omega (arith, expressions_count here.describes)

-- ---- an expression's operands, from its kind byte
module _ {image : List ℕ} {x : Design} {place n k : ℕ} (here : ExpressionAt image x place n) (same : k ≡ (node_in image place n).kind) where
  pub operation_operands : {a b : ℕ} → 2 ≤ k → k < expression_kinds → a ≡ (node_in image place n).a → b ≡ (node_in image place n).b → operands_of (design_of image) n ≡ a ∷ b ∷ []
  operation_operands low high p q =
      let o = operation here high (omega arith) (λ e. omega arith) same in
      two_parts (operands_of_operation (expression_at (design_of image) n) o.1) (first_is here p) (second_is here q)

  no_operation : ((o : Operation) → expression_kind k ≡ operates o → ⊥) → operands_of (design_of image) n ≡ []
  no_operation h =
      operands_of_others
      (expression_kind (expression_at (design_of image) n).kind)
      (expression_at (design_of image) n)
      (λ o e. h o (ap expression_kind (sym (expression_kind_is here same)) ∙ e))

  pub no_operands_low : k < 2 → operands_of (design_of image) n ≡ []
  no_operands_low h = no_operation (λ o e. ⊎_elim (λ (z : k < 1). no_operation_zero (omega arith) o e) (λ (z : k ≡ 1). no_operation_one z o e) (below_suc h))

  pub no_operands_high : expression_kinds ≤ k → operands_of (design_of image) n ≡ []
  no_operands_high h = no_operation (no_operation_above h)

-- ---- the parts of an operation, where its kind is the first that a match looks for
module _ {image : List ℕ} {x : Design} {place n k m : ℕ} (here : ExpressionAt image x place n) where
  pub operation_a : 2 ≤ k → k < expression_kinds → k ≡ (node_in image place n).kind → m ≡ (node_in image place n).a → m < n
  operation_a low high same p = operand_a_below here high (omega arith) (λ e. omega arith) same p

  pub operation_b : 2 ≤ k → k < expression_kinds → k ≡ (node_in image place n).kind → m ≡ (node_in image place n).b → m < n
  operation_b low high same p = operand_b_below here high (omega arith) (λ e. omega arith) same p

-- ---- a node and its parts have entries in a table of their family, of which only the length matters
module _ {image : List ℕ} {x : Design} {place n : ℕ} (here : CommandAt image x place n) where
  pub command_inside : {long : ℕ} → x.commands ≤ long → n < long
  command_inside l = let node = here.node in omega arith

  lower_inside : {m long : ℕ} → x.commands ≤ long → m < n → m < long
  lower_inside l b = let node = here.node in omega arith

  pub sequence_a_inside : {k m long : ℕ} → k ≡ 2 → k ≡ (node_in image place n).kind → m ≡ (node_in image place n).a → x.commands ≤ long → m < long
  sequence_a_inside e same p l = lower_inside l (sequence_a_below here e same p)

  pub sequence_b_inside : {k m long : ℕ} → k ≡ 2 → k ≡ (node_in image place n).kind → m ≡ (node_in image place n).b → x.commands ≤ long → m < long
  sequence_b_inside e same p l = lower_inside l (sequence_b_below here e same p)

  pub branch_b_inside : {k m long : ℕ} → k ≡ 5 → k ≡ (node_in image place n).kind → m ≡ (node_in image place n).b → x.commands ≤ long → m < long
  branch_b_inside e same p l = lower_inside l (branch_b_below here e same p)

  pub branch_c_inside : {k m long : ℕ} → k ≡ 5 → k ≡ (node_in image place n).kind → m ≡ (node_in image place n).c → x.commands ≤ long → m < long
  branch_c_inside e same p l = lower_inside l (branch_c_below here e same p)

pub body_inside : {image : List ℕ} {x : Design} {s m long : ℕ} → Describes image x → s < x.states → m ≡ (state_in image x.states_at s).command → StatesKept (design_of image) → x.commands ≤ long → m < long
body_inside d l same kept inside = let below = body_below d l same kept in omega arith

pub expression_inside : {image : List ℕ} {x : Design} {place n long : ℕ} → ExpressionAt image x place n → x.expressions ≤ long → n < long
expression_inside here l = let node = here.node in omega arith

module _ {image : List ℕ} {x : Design} {place n k m long : ℕ} (high : k < expression_kinds) (low : 2 ≤ k) (here : ExpressionAt image x place n) (same : k ≡ (node_in image place n).kind) where
  pub operation_a_inside : m ≡ (node_in image place n).a → x.expressions ≤ long → m < long
  operation_a_inside p l = let node = here.node in let below = operation_a here low high same p in omega arith

  pub operation_b_inside : m ≡ (node_in image place n).b → x.expressions ≤ long → m < long
  operation_b_inside p l = let node = here.node in let below = operation_b here low high same p in omega arith

-- the parts of a node, for `search`
pub ruleset command_part_laws = (sequence_a_inside, sequence_b_inside, branch_b_inside, branch_c_inside)

pub ruleset expression_part_laws = (operation_a_inside, operation_b_inside)
