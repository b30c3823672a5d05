-- Laws of the trees by the kind of a node: what a command and an expression of each kind are, from the trees of their parts.
use Prim.Native.Nat.{ℕ, suc, max, ◌<◌}
use mathlib.Core.Path.{◌≡◌, refl, ◌∙◌, ap}
use Rattle.model.specs.Image.{Design, Node, command_at, expression_at, constant_of}
use Rattle.model.specs.Kinds.{CommandKind, ExpressionKind, unknown_command, unknown_expression, Operation, skips, assigns, sequences, falls, goes, branches, constants, reads, operates, command_kind, expression_kind}
use Rattle.model.specs.Trees.{Expr, constant, register, binary, Cmd, skip, assign, sequence, fall, goto, branch, expr_of_kind, cmd_of_kind, expr_step, expr_of, cmd_step, cmd_of, expr_depth, cmd_depth}
use Rattle.model.proofs.Laws.Indices.{recursively_step, only_below, only_below_at}

module _ (d : Design) where
  expr_step_lem : (n : ℕ) → expr_of d n ≡ expr_step d n (only_below (constant 0) n (expr_of d))
  unfolding expr_of
  expr_step_lem n = recursively_step (constant 0) (expr_step d) n

  cmd_step_lem : (n : ℕ) → cmd_of d n ≡ cmd_step d n (only_below (skip 0) n (cmd_of d))
  unfolding cmd_of
  cmd_step_lem n = recursively_step (skip 0) (cmd_step d) n

module _ (d : Design) (n : ℕ) where
  -- a part of an expression, and of a command
  expr_part : (m : ℕ) → m < n → only_below (constant 0) n (expr_of d) m ≡ expr_of d m
  expr_part m l = only_below_at (constant 0) n m (expr_of d) l

  cmd_part : (m : ℕ) → m < n → only_below (skip 0) n (cmd_of d) m ≡ cmd_of d m
  cmd_part m l = only_below_at (skip 0) n m (cmd_of d) l

  -- ---- expressions
  pub expr_constant : expression_kind (expression_at d n).kind ≡ constants → expr_of d n ≡ constant (constant_of (expression_at d n))
  unfolding expr_step expr_of_kind
  expr_constant k = expr_step_lem d n ∙ rw k

  pub expr_register : expression_kind (expression_at d n).kind ≡ reads → expr_of d n ≡ register n (expression_at d n).item
  unfolding expr_step expr_of_kind
  expr_register k = expr_step_lem d n ∙ rw k

  pub expr_binary :
      {o : Operation}
      → expression_kind (expression_at d n).kind ≡ operates o
      → (expression_at d n).a < n
      → (expression_at d n).b < n
      → expr_of d n ≡ binary o (expr_of d (expression_at d n).a) (expr_of d (expression_at d n).b)
  unfolding expr_step expr_of_kind
  expr_binary k a b = expr_step_lem d n ∙ rw (k, expr_part (expression_at d n).a a, expr_part (expression_at d n).b b)

  -- ---- commands
  pub cmd_skip : command_kind (command_at d n).kind ≡ skips → cmd_of d n ≡ skip n
  unfolding cmd_step cmd_of_kind
  cmd_skip k = cmd_step_lem d n ∙ rw k

  pub cmd_assign :
      command_kind (command_at d n).kind ≡ assigns
      → cmd_of d n ≡ assign n (command_at d n).item (expr_of d (command_at d n).a)
  unfolding cmd_step cmd_of_kind
  cmd_assign k = cmd_step_lem d n ∙ rw k

  pub cmd_sequence :
      command_kind (command_at d n).kind ≡ sequences
      → (command_at d n).a < n
      → (command_at d n).b < n
      → cmd_of d n ≡ sequence n (cmd_of d (command_at d n).a) (cmd_of d (command_at d n).b)
  unfolding cmd_step cmd_of_kind
  cmd_sequence k a b = cmd_step_lem d n ∙ rw (k, cmd_part (command_at d n).a a, cmd_part (command_at d n).b b)

  pub cmd_fall : command_kind (command_at d n).kind ≡ falls → cmd_of d n ≡ fall n
  unfolding cmd_step cmd_of_kind
  cmd_fall k = cmd_step_lem d n ∙ rw k

  pub cmd_goto : command_kind (command_at d n).kind ≡ goes → cmd_of d n ≡ goto n (command_at d n).item (command_at d n).a (command_at d n).b
  unfolding cmd_step cmd_of_kind
  cmd_goto k = cmd_step_lem d n ∙ rw k

  pub cmd_branch :
      command_kind (command_at d n).kind ≡ branches
      → (command_at d n).b < n
      → (command_at d n).c < n
      → cmd_of d n ≡ branch n (expr_of d (command_at d n).a) (cmd_of d (command_at d n).b) (cmd_of d (command_at d n).c)
  unfolding cmd_step cmd_of_kind
  cmd_branch k b c = cmd_step_lem d n ∙ rw (k, cmd_part (command_at d n).b b, cmd_part (command_at d n).c c)

-- ---- depths
flat_command :
    (kind : CommandKind) (n : ℕ) (x : Node) (e : Expr) (p q r : Cmd)
    → (kind ≡ sequences → ⊥)
    → (kind ≡ branches → ⊥)
    → cmd_depth (cmd_of_kind kind n x e p q r) ≡ 1
unfolding cmd_of_kind cmd_depth
flat_command skips n x e p q r s b = refl
flat_command assigns n x e p q r s b = refl
flat_command sequences n x e p q r s b = absurd (s refl)
flat_command falls n x e p q r s b = refl
flat_command goes n x e p q r s b = refl
flat_command branches n x e p q r s b = absurd (b refl)
flat_command unknown_command n x e p q r s b = refl

flat_expression :
    (kind : ExpressionKind) (n : ℕ) (x : Node) (p q : Expr)
    → ((o : Operation) → kind ≡ operates o → ⊥)
    → expr_depth (expr_of_kind kind n x p q) ≡ 1
unfolding expr_of_kind expr_depth
flat_expression constants n x p q h = refl
flat_expression reads n x p q h = refl
flat_expression (operates o) n x p q h = absurd (h o refl)
flat_expression unknown_expression n x p q h = refl

module _ (d : Design) (n : ℕ) where
  -- a node without parts of its family has depth 1
  pub expr_flat_depth : ((o : Operation) → expression_kind (expression_at d n).kind ≡ operates o → ⊥) → expr_depth (expr_of d n) ≡ 1
  unfolding expr_step
  expr_flat_depth h = ap expr_depth (expr_step_lem d n) ∙ flat_expression (expression_kind (expression_at d n).kind) _ _ _ _ h

  pub cmd_flat_depth :
      (command_kind (command_at d n).kind ≡ sequences → ⊥)
      → (command_kind (command_at d n).kind ≡ branches → ⊥)
      → cmd_depth (cmd_of d n) ≡ 1
  unfolding cmd_step
  cmd_flat_depth s b = ap cmd_depth (cmd_step_lem d n) ∙ flat_command (command_kind (command_at d n).kind) _ _ _ _ _ _ s b

  -- any other has one more than its deepest such part
  pub expr_binary_depth :
      {o : Operation}
      → expression_kind (expression_at d n).kind ≡ operates o
      → (expression_at d n).a < n
      → (expression_at d n).b < n
      → expr_depth (expr_of d n) ≡ suc (max (expr_depth (expr_of d (expression_at d n).a)) (expr_depth (expr_of d (expression_at d n).b)))
  unfolding expr_depth
  expr_binary_depth k a b = ap expr_depth (expr_binary d n k a b)

  pub cmd_sequence_depth :
      command_kind (command_at d n).kind ≡ sequences
      → (command_at d n).a < n
      → (command_at d n).b < n
      → cmd_depth (cmd_of d n) ≡ suc (max (cmd_depth (cmd_of d (command_at d n).a)) (cmd_depth (cmd_of d (command_at d n).b)))
  unfolding cmd_depth
  cmd_sequence_depth k a b = ap cmd_depth (cmd_sequence d n k a b)

  pub cmd_branch_depth :
      command_kind (command_at d n).kind ≡ branches
      → (command_at d n).b < n
      → (command_at d n).c < n
      → cmd_depth (cmd_of d n) ≡ suc (max (cmd_depth (cmd_of d (command_at d n).b)) (cmd_depth (cmd_of d (command_at d n).c)))
  unfolding cmd_depth
  cmd_branch_depth k b c = ap cmd_depth (cmd_branch d n k b c)
