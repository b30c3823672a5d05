-- Every place that shape or scopes charge in the tree of a command is that of a node of the design: the tree has no other.
use Rattle.std.specs.Prelude.{Option, Some, None}
use Prim.Native.Nat.{ℕ, zero, suc, min, ◌+◌, ◌≤◌, ◌<◌}
use mathlib.Core.Path.{◌≡◌}
use mathlib.Core.Bool.{Bool, true, false, not, beq}
use mathlib.Core.List.{List, [], ◌∷◌, ◌++◌}
use native.Mathlib.Omega.{arith}
use native.Mathlib.Decide.{dec_lt}
use lib.ListN.{length, get_or-eq_default}
use Rattle.model.specs.Limits.{commands_max, expressions_max, expression_place}
use Rattle.model.specs.Indices.{lower, lowest_of, join_below}
use Rattle.model.specs.Image.{Design, Node, no_node, state_at, command_at, expression_at}
use Rattle.model.specs.Kinds.{CommandKind, skips, assigns, sequences, falls, goes, branches, unknown_command, command_kind, ExpressionKind, constants, reads, operates, unknown_expression, expression_kind}
use Rattle.model.specs.Trees.{Expr, constant, register, binary, Cmd, skip, assign, sequence, fall, goto, branch, expr_of_kind, expr_step, expr_of, cmd_of_kind, cmd_step, cmd_of, body_of}
use Rattle.model.specs.States.{has_child, sibling_or_self}
use Rattle.model.specs.Shape.{charged_unless, transfers, shape_faults, state_shape_faults}
use Rattle.model.specs.Scopes.{name_kept, arguments_kept, read_faults, scope_faults, state_scope_faults}
use Rattle.model.proofs.Laws.Indices.{recursively_all}

-- ---- what holds of each entry of a list
pub data Each {A : Type 0} (P : A → Type 0) : List A → Type 0 where
  none : Each P []
  one_more : {x : A} {more : List A} → P x → Each P more → Each P (x ∷ more)

module _ {A : Type 0} {P : A → Type 0} where
  pub each_append : {xs ys : List A} → Each P xs → Each P ys → Each P (xs ++ ys)
  each_append none q = q
  each_append (one_more x p) q = one_more x (each_append p q)

  pub each_join : (f : ℕ → List A) (n : ℕ) → ((k : ℕ) → k < n → Each P (f k)) → Each P (join_below f n)
  unfolding join_below
  each_join f zero h = none
  each_join f (suc n) h = each_append (each_join f n (λ k l. h k (omega arith))) (h n (omega arith))

-- ---- places below b
abbrev pub Below : ℕ → List ℕ → Type 0
Below b xs = Each (λ x. x < b) xs

abbrev pub FoundBelow : ℕ → Option ℕ → Type 0
FoundBelow b f = (p : ℕ) → f ≡ Some p → p < b

pub found_at : (b n : ℕ) → n < b → FoundBelow b (Some n)
found_at b n l p e = let same : n ≡ p = cc in omega arith

pub found_nowhere : (b : ℕ) → FoundBelow b None
found_nowhere b p e = let z : ◌≡◌ {A = ℕ} 0 1 = cc in absurd (omega arith)

lower_below : (b i : ℕ) (f : Option ℕ) → i < b → FoundBelow b (lower (Some i) f)
lower_below b i None l = found_at b i l
lower_below b i (Some j) l = found_at b (min i j) (omega arith)

-- the lowest of places
pub lowest_below : (b : ℕ) {xs : List ℕ} → Below b xs → FoundBelow b (lowest_of xs)
unfolding lowest_of
lowest_below b none = found_nowhere b
lowest_below b (one_more {x} {more} l h) = lower_below b x (lowest_of more) l

-- places below one bound are below any greater one
pub below_more : {b c : ℕ} {xs : List ℕ} → b ≤ c → Below b xs → Below c xs
below_more m none = none
below_more m (one_more {x} l h) = one_more {x = x} (omega arith) (below_more m h)

pub charged_below : {b : ℕ} (w : Bool) (n : ℕ) → n < b → Below b (charged_unless w n)
charged_below true n l = none
charged_below false n l = one_more l none

-- ---- the nodes of a tree
module _ (d : Design) where
  -- every register that an expression reads is an expression of the design, and every command that a fault may be charged to is a command of it
  abbrev pub ReadNumbered : Expr → Type 0
  ReadNumbered (constant v) = Unit {0}
  ReadNumbered (register n r) = n < length d.expressions
  ReadNumbered (binary o p q) = ReadNumbered p × ReadNumbered q

  abbrev pub Numbered : Cmd → Type 0
  Numbered (skip n) = Unit {0}
  Numbered (assign n r e) = (n < length d.commands) × ReadNumbered e
  Numbered (sequence n p q) = (n < length d.commands) × Numbered p × Numbered q
  Numbered (fall n) = n < length d.commands
  Numbered (goto n t a b) = n < length d.commands
  Numbered (branch n e p q) = (n < length d.commands) × ReadNumbered e × Numbered p × Numbered q

  expr_kind_numbered : (kind : ExpressionKind) (n : ℕ) (x : Node) (p q : Expr) → n < length d.expressions → ReadNumbered p → ReadNumbered q → ReadNumbered (expr_of_kind kind n x p q)
  unfolding expr_of_kind
  expr_kind_numbered constants n x p q l h k = tt
  expr_kind_numbered reads n x p q l h k = l
  expr_kind_numbered (operates o) n x p q l h k = (h, k)
  expr_kind_numbered unknown_expression n x p q l h k = tt

  kind_numbered : (kind : CommandKind) (n : ℕ) (x : Node) (e : Expr) (p q r : Cmd) → n < length d.commands → ReadNumbered e → Numbered p → Numbered q → Numbered r → Numbered (cmd_of_kind kind n x e p q r)
  unfolding cmd_of_kind
  kind_numbered skips n x e p q r l f h k m = tt
  kind_numbered assigns n x e p q r l f h k m = (l, f)
  kind_numbered sequences n x e p q r l f h k m = (l, h, k)
  kind_numbered falls n x e p q r l f h k m = l
  kind_numbered goes n x e p q r l f h k m = l
  kind_numbered branches n x e p q r l f h k m = (l, f, k, m)
  kind_numbered unknown_command n x e p q r l f h k m = tt

  -- past the last expression there are constants, and past the last command skips
  pub expr_numbered : (n : ℕ) → ReadNumbered (expr_of d n)
  unfolding expr_of expr_step expression_kind expr_of_kind
  expr_numbered n = recursively_all (constant 0) (expr_step d) ReadNumbered tt (λ m part all. step m part all (dec_lt m (length d.expressions))) n
    where
      step : (m : ℕ) (part : ℕ → Expr) → ((k : ℕ) → ReadNumbered (part k)) → Dec (m < length d.expressions) → ReadNumbered (expr_step d m part)
      step m part all (yes l) = expr_kind_numbered (expression_kind (expression_at d m).kind) m (expression_at d m) (part (expression_at d m).a) (part (expression_at d m).b) l (all (expression_at d m).a) (all (expression_at d m).b)
      step m part all (no l) = rw (get_or-eq_default d.expressions no_node {n = m} (omega arith)) tt

  pub cmd_numbered : (n : ℕ) → Numbered (cmd_of d n)
  unfolding cmd_of cmd_step command_kind cmd_of_kind
  cmd_numbered n = recursively_all (skip 0) (cmd_step d) Numbered tt (λ m part all. step m part all (dec_lt m (length d.commands))) n
    where
      step : (m : ℕ) (part : ℕ → Cmd) → ((k : ℕ) → Numbered (part k)) → Dec (m < length d.commands) → Numbered (cmd_step d m part)
      step m part all (yes l) =
          let x = command_at d m in
          kind_numbered (command_kind x.kind) m x (expr_of d x.a) (part x.a) (part x.b) (part x.c) l (expr_numbered x.a) (all x.a) (all x.b) (all x.c)
      step m part all (no l) = rw (get_or-eq_default d.commands no_node {n = m} (omega arith)) tt

  pub body_numbered : (s : ℕ) → Numbered (body_of d s)
  unfolding body_of
  body_numbered s = cmd_numbered (state_at d s).command

  -- ---- the faults of a tree
  pub shape_below : (s : ℕ) (c : Cmd) → Numbered c → Below (length d.commands) (shape_faults d s c)
  unfolding shape_faults
  shape_below s (skip n) h = none
  shape_below s (assign n r e) h = none
  shape_below s (sequence n p q) h = each_append (charged_below (not (transfers p)) n h.0) (each_append (shape_below s p h.1) (shape_below s q h.2))
  shape_below s (fall n) h = charged_below (has_child d s) n h
  shape_below s (goto n t a b) h = charged_below (sibling_or_self d s t) n h
  shape_below s (branch n e p q) h = each_append (charged_below (beq (transfers p) (transfers q)) n h.0) (each_append (shape_below s p h.2) (shape_below s q h.3))

  pub state_shape_below : (s : ℕ) → (state_at d s).command < length d.commands → Below (length d.commands) (state_shape_faults d s)
  unfolding state_shape_faults
  state_shape_below s l = each_append (charged_below (transfers (body_of d s)) (state_at d s).command l) (shape_below s (body_of d s) (body_numbered s))

  module _ (commands : length d.commands ≤ commands_max) (expressions : length d.expressions ≤ expressions_max) (s : ℕ) where
    command_charged : (w : Bool) (n : ℕ) → n < length d.commands → Below (expression_place + expressions_max) (charged_unless w n)
    command_charged w n l = charged_below w n (omega arith)

    read_below : (e : Expr) → ReadNumbered e → Below (expression_place + expressions_max) (read_faults d s e)
    unfolding read_faults
    read_below (constant v) h = none
    read_below (register n r) h = charged_below (name_kept d s r) (expression_place + n) (omega arith)
    read_below (binary o p q) h = each_append (read_below p h.0) (read_below q h.1)

    pub scope_below : (c : Cmd) → Numbered c → Below (expression_place + expressions_max) (scope_faults d s c)
    unfolding scope_faults
    scope_below (skip n) h = none
    scope_below (assign n r e) h = each_append (command_charged (name_kept d s r) n h.0) (read_below e h.1)
    scope_below (sequence n p q) h = each_append (scope_below p h.1) (scope_below q h.2)
    scope_below (fall n) h = none
    scope_below (goto n t a b) h = command_charged (arguments_kept d s t a b) n h
    scope_below (branch n e p q) h = each_append (read_below e h.1) (each_append (scope_below p h.2) (scope_below q h.3))

    pub state_scope_below : Below (expression_place + expressions_max) (state_scope_faults d s)
    unfolding state_scope_faults
    state_scope_below = scope_below (body_of d s) (body_numbered s)
