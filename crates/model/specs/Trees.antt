-- The abstract syntax of the source paper (document 004, figure 3), decoded from node numbers. Each command carries its node number, for places.
-- Parts have lower numbers than their owner, so a tree is decoded by recursion from a number to lower ones.
use Rattle.std.specs.Prelude.{ℕ, suc, max, List, [], ◌∷◌, ◌++◌}
use Rattle.model.specs.Indices.{recursively}
use Rattle.model.specs.Image.{Design, Node, state_at, command_at, expression_at, constant_of}
use Rattle.model.specs.Kinds.{Operation, CommandKind, skips, assigns, sequences, falls, goes, branches, unknown_command, ExpressionKind, constants, reads, unknown_expression, operates, command_kind, expression_kind}

-- The first argument of a register is its node number. What it reads is a register's number, or, since 02, E8, a byte that names a parameter.
pub data Expr : Type 0 where
  constant : ℕ → Expr
  register : ℕ → ℕ → Expr
  binary : Operation → Expr → Expr → Expr

-- The first argument of each is the command's node number. A goto has the state that it names and its fields a and b, the arguments (02, E8).
pub data Cmd : Type 0 where
  skip : ℕ → Cmd
  assign : ℕ → ℕ → Expr → Cmd
  sequence : ℕ → Cmd → Cmd → Cmd
  fall : ℕ → Cmd
  goto : ℕ → ℕ → ℕ → ℕ → Cmd
  branch : ℕ → Expr → Cmd → Cmd → Cmd

-- the expression of a kind, from its number, its node and its two parts
unfoldable pub expr_of_kind : ExpressionKind → ℕ → Node → Expr → Expr → Expr
expr_of_kind constants n x p q = constant (constant_of x)
expr_of_kind reads n x p q = register n x.item
expr_of_kind (operates o) n x p q = binary o p q
expr_of_kind unknown_expression n x p q = constant 0

-- the command of a kind, from its number, its node, its expression, and the commands that its fields a, b and c number
unfoldable pub cmd_of_kind : CommandKind → ℕ → Node → Expr → Cmd → Cmd → Cmd → Cmd
cmd_of_kind skips n x e p q r = skip n
cmd_of_kind assigns n x e p q r = assign n x.item e
cmd_of_kind sequences n x e p q r = sequence n p q
cmd_of_kind falls n x e p q r = fall n
cmd_of_kind goes n x e p q r = goto n x.item x.a x.b
cmd_of_kind branches n x e p q r = branch n e q r
cmd_of_kind unknown_command n x e p q r = skip n

module _ (d : Design) where
  unfoldable pub expr_step : ℕ → (ℕ → Expr) → Expr
  expr_step n part =
      let x = expression_at d n in
      let p = part x.a in
      let q = part x.b in
      expr_of_kind (expression_kind x.kind) n x p q

  -- the tree of expression n
  unfoldable pub expr_of : ℕ → Expr
  expr_of n = recursively (constant 0) expr_step n

  unfoldable pub cmd_step : ℕ → (ℕ → Cmd) → Cmd
  cmd_step n part =
      let x = command_at d n in
      let e = expr_of x.a in
      let p = part x.a in
      let q = part x.b in
      let r = part x.c in
      cmd_of_kind (command_kind x.kind) n x e p q r

  -- the tree of command n
  unfoldable pub cmd_of : ℕ → Cmd
  cmd_of n = recursively (skip 0) cmd_step n

  -- the body of state s: the tree of its command
  unfoldable pub body_of : ℕ → Cmd
  body_of s = cmd_of (state_at d s).command

-- "a node without parts of its own family has depth 1, any other has one more than its deepest such part"
unfoldable pub expr_depth : Expr → ℕ
expr_depth (constant v) = 1
expr_depth (register n r) = 1
expr_depth (binary o p q) = suc (max (expr_depth p) (expr_depth q))

unfoldable pub cmd_depth : Cmd → ℕ
cmd_depth (skip n) = 1
cmd_depth (assign n r e) = 1
cmd_depth (sequence n p q) = suc (max (cmd_depth p) (cmd_depth q))
cmd_depth (fall n) = 1
cmd_depth (goto n t a b) = 1
cmd_depth (branch n e p q) = suc (max (cmd_depth p) (cmd_depth q))

-- the registers that an expression reads, from left to right
unfoldable pub registers_read : Expr → List ℕ
registers_read (constant v) = []
registers_read (register n r) = r ∷ []
registers_read (binary o p q) = registers_read p ++ registers_read q
