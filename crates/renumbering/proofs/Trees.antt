-- A tree of what stays is the old tree under new numbers: a node has its old kind and its parts are the old ones renumbered, so by induction to lower numbers the trees are too.
use Prim.Native.Nat.{ℕ, zero, suc, ◌<◌}
use mathlib.Core.Path.{◌≡◌, refl, sym, ◌∙◌, ap, ap₂}
use mathlib.Core.List.{Memᴰ}
use native.Mathlib.Omega.{arith}
use Rattle.model.specs.Image.{Design, State, Node, state_at, command_at, expression_at, constant_of}
use Rattle.model.specs.Kinds.{CommandKind, skips, assigns, sequences, falls, goes, branches, unknown_command, ExpressionKind, constants, reads, unknown_expression, operates, command_kind, expression_kind}
use Rattle.model.specs.Trees.{constant, register, binary, assign, sequence, goto, expr_of, cmd_of, body_of}
use Rattle.model.specs.Nodes.{command_parts, expressions_of, expression_parts, parts_of, values_of, operands_of}
use Rattle.model.specs.Rules.{CommandHolds, ExpressionHolds, DesignKeeps}
use Rattle.model.proofs.Laws.Trees.{expr_constant, expr_register, expr_binary, cmd_skip, cmd_assign, cmd_sequence, cmd_fall, cmd_goto, cmd_branch}
use Rattle.renumbering.specs.Renumbering.{renumbered_state, renumbered_command, renumbered_expression, renumbered_expr, renumbered_cmd}
use Rattle.renumbering.specs.Renumbers.{Renumbers}

-- ---- a record under new numbers has its old kind
module _ (state command expression : ℕ → ℕ) where
  pub command_kind_kept : (k : CommandKind) (x : Node) → (renumbered_command state command expression k x).kind ≡ x.kind
  unfolding renumbered_command
  command_kind_kept skips x = refl
  command_kind_kept assigns x = refl
  command_kind_kept sequences x = refl
  command_kind_kept falls x = refl
  command_kind_kept goes x = refl
  command_kind_kept branches x = refl
  command_kind_kept unknown_command x = refl

  pub expression_kind_kept : (k : ExpressionKind) (x : Node) → (renumbered_expression state command expression k x).kind ≡ x.kind
  unfolding renumbered_expression
  expression_kind_kept constants x = refl
  expression_kind_kept reads x = refl
  expression_kind_kept unknown_expression x = refl
  expression_kind_kept (operates o) x = refl

module _ {d d' : Design} {state command expression : ℕ → ℕ} {S C E : ℕ → Type 0} (keeps : DesignKeeps d) (new : Renumbers d d' state command expression S C E) where
  pub same_command_kind : (n : ℕ) → C n → command_kind (command_at d' (command n)).kind ≡ command_kind (command_at d n).kind
  same_command_kind n c =
      ap command_kind (ap (λ (x : Node). x.kind) (new.command_is n c) ∙ command_kind_kept state command expression (command_kind (command_at d n).kind) (command_at d n))

  pub same_expression_kind : (n : ℕ) → E n → expression_kind (expression_at d' (expression n)).kind ≡ expression_kind (expression_at d n).kind
  same_expression_kind n e =
      ap expression_kind (ap (λ (x : Node). x.kind) (new.expression_is n e) ∙ expression_kind_kept state command expression (expression_kind (expression_at d n).kind) (expression_at d n))

  -- the record at the new number, and the old record's rule, of a kind
  pub command_of_kind :
      (n : ℕ) → C n → (k : CommandKind) → command_kind (command_at d n).kind ≡ k → command_at d' (command n) ≡ renumbered_command state command expression k (command_at d n)
  command_of_kind n c k is = rw (← is) (new.command_is n c)

  pub expression_of_kind :
      (n : ℕ) → E n → (k : ExpressionKind) → expression_kind (expression_at d n).kind ≡ k → expression_at d' (expression n) ≡ renumbered_expression state command expression k (expression_at d n)
  expression_of_kind n e k is = rw (← is) (new.expression_is n e)

  pub command_held : (n : ℕ) → C n → (k : CommandKind) → command_kind (command_at d n).kind ≡ k → CommandHolds d n k (command_at d n)
  command_held n c k is = rw is at (keeps.structure.commands n (new.commands_old n c))

  pub expression_held : (n : ℕ) → E n → (k : ExpressionKind) → expression_kind (expression_at d n).kind ≡ k → ExpressionHolds d n k (expression_at d n)
  expression_held n e k is = rw is at (keeps.structure.expressions n (new.expressions_old n e))

  -- ---- expressions
  -- from the trees of lower numbers
  expr_at :
      (n : ℕ)
      → E n
      → ((p : ℕ) → p < n → E p → expr_of d' (expression p) ≡ renumbered_expr state command expression (expr_of d p))
      → (k : ExpressionKind)
      → expression_kind (expression_at d n).kind ≡ k
      → expr_of d' (expression n) ≡ renumbered_expr state command expression (expr_of d n)
  unfolding renumbered_expr renumbered_expression expression_parts
  expr_at n e below constants is =
      expr_constant d' (expression n) (same_expression_kind n e ∙ is)
      ∙ ap (λ (x : Node). constant (constant_of x)) (expression_of_kind n e constants is)
      ∙ sym (ap (renumbered_expr state command expression) (expr_constant d n is))
  expr_at n e below reads is =
      expr_register d' (expression n) (same_expression_kind n e ∙ is)
      ∙ ap (λ (x : Node). register (expression n) x.item) (expression_of_kind n e reads is)
      ∙ sym (ap (renumbered_expr state command expression) (expr_register d n is))
  expr_at n e below unknown_expression is = absurd (expression_held n e unknown_expression is)
  expr_at n e below (operates o) is =
      let held = expression_held n e (operates o) is in
      let first : Memᴰ (expression_at d n).a (operands_of d n) = rw is (mathlib.Core.List.Memᴰ.head refl) in
      let second : Memᴰ (expression_at d n).b (operands_of d n) = rw is (mathlib.Core.List.Memᴰ.tail (mathlib.Core.List.Memᴰ.head refl)) in
      let a : (expression_at d' (expression n)).a ≡ expression (expression_at d n).a = ap (λ (x : Node). x.a) (expression_of_kind n e (operates o) is) in
      let b : (expression_at d' (expression n)).b ≡ expression (expression_at d n).b = ap (λ (x : Node). x.b) (expression_of_kind n e (operates o) is) in
      let a_below = new.operands_below n (expression_at d n).a e first in
      let b_below = new.operands_below n (expression_at d n).b e second in
      expr_binary d' (expression n) (same_expression_kind n e ∙ is) (omega arith) (omega arith)
      ∙ ap₂
      (binary o)
      (ap (expr_of d') a ∙ below (expression_at d n).a held.1 (new.operands_stay n (expression_at d n).a e first))
      (ap (expr_of d') b ∙ below (expression_at d n).b held.2 (new.operands_stay n (expression_at d n).b e second))
      ∙ sym (ap (renumbered_expr state command expression) (expr_binary d n is held.1 held.2))

  expr_below : (f n : ℕ) → n < f → E n → expr_of d' (expression n) ≡ renumbered_expr state command expression (expr_of d n)
  expr_below zero n l e = absurd (omega arith)
  expr_below (suc f) n l e = expr_at n e (λ p m stays. expr_below f p (omega arith) stays) (expression_kind (expression_at d n).kind) refl

  pub expr_renumbered : (n : ℕ) → E n → expr_of d' (expression n) ≡ renumbered_expr state command expression (expr_of d n)
  expr_renumbered n e = expr_below (suc n) n (omega arith) e

  -- ---- commands
  cmd_at :
      (n : ℕ)
      → C n
      → ((p : ℕ) → p < n → C p → cmd_of d' (command p) ≡ renumbered_cmd state command expression (cmd_of d p))
      → (k : CommandKind)
      → command_kind (command_at d n).kind ≡ k
      → cmd_of d' (command n) ≡ renumbered_cmd state command expression (cmd_of d n)
  unfolding renumbered_cmd renumbered_command command_parts expressions_of
  cmd_at n c below skips is = cmd_skip d' (command n) (same_command_kind n c ∙ is) ∙ sym (ap (renumbered_cmd state command expression) (cmd_skip d n is))
  cmd_at n c below assigns is =
      let value : Memᴰ (command_at d n).a (values_of d n) = rw is (mathlib.Core.List.Memᴰ.head refl) in
      let item : (command_at d' (command n)).item ≡ (command_at d n).item = ap (λ (x : Node). x.item) (command_of_kind n c assigns is) in
      let a : (command_at d' (command n)).a ≡ expression (command_at d n).a = ap (λ (x : Node). x.a) (command_of_kind n c assigns is) in
      cmd_assign d' (command n) (same_command_kind n c ∙ is)
      ∙ ap₂ (assign (command n)) item (ap (expr_of d') a ∙ expr_renumbered (command_at d n).a (new.values_stay n (command_at d n).a c value))
      ∙ sym (ap (renumbered_cmd state command expression) (cmd_assign d n is))
  cmd_at n c below sequences is =
      let held = command_held n c sequences is in
      let first : Memᴰ (command_at d n).a (parts_of d n) = rw is (mathlib.Core.List.Memᴰ.head refl) in
      let second : Memᴰ (command_at d n).b (parts_of d n) = rw is (mathlib.Core.List.Memᴰ.tail (mathlib.Core.List.Memᴰ.head refl)) in
      let a : (command_at d' (command n)).a ≡ command (command_at d n).a = ap (λ (x : Node). x.a) (command_of_kind n c sequences is) in
      let b : (command_at d' (command n)).b ≡ command (command_at d n).b = ap (λ (x : Node). x.b) (command_of_kind n c sequences is) in
      let a_below = new.parts_below n (command_at d n).a c first in
      let b_below = new.parts_below n (command_at d n).b c second in
      cmd_sequence d' (command n) (same_command_kind n c ∙ is) (omega arith) (omega arith)
      ∙ ap₂
      (sequence (command n))
      (ap (cmd_of d') a ∙ below (command_at d n).a held.1 (new.parts_stay n (command_at d n).a c first))
      (ap (cmd_of d') b ∙ below (command_at d n).b held.2 (new.parts_stay n (command_at d n).b c second))
      ∙ sym (ap (renumbered_cmd state command expression) (cmd_sequence d n is held.1 held.2))
  cmd_at n c below falls is = cmd_fall d' (command n) (same_command_kind n c ∙ is) ∙ sym (ap (renumbered_cmd state command expression) (cmd_fall d n is))
  cmd_at n c below goes is =
      cmd_goto d' (command n) (same_command_kind n c ∙ is)
      ∙ ap (λ (x : Node). goto (command n) x.item x.a x.b) (command_of_kind n c goes is)
      ∙ sym (ap (renumbered_cmd state command expression) (cmd_goto d n is))
  cmd_at n c below branches is =
      let held = command_held n c branches is in
      let value : Memᴰ (command_at d n).a (values_of d n) = rw is (mathlib.Core.List.Memᴰ.head refl) in
      let first : Memᴰ (command_at d n).b (parts_of d n) = rw is (mathlib.Core.List.Memᴰ.head refl) in
      let second : Memᴰ (command_at d n).c (parts_of d n) = rw is (mathlib.Core.List.Memᴰ.tail (mathlib.Core.List.Memᴰ.head refl)) in
      let a : (command_at d' (command n)).a ≡ expression (command_at d n).a = ap (λ (x : Node). x.a) (command_of_kind n c branches is) in
      let b : (command_at d' (command n)).b ≡ command (command_at d n).b = ap (λ (x : Node). x.b) (command_of_kind n c branches is) in
      let c' : (command_at d' (command n)).c ≡ command (command_at d n).c = ap (λ (x : Node). x.c) (command_of_kind n c branches is) in
      let b_below = new.parts_below n (command_at d n).b c first in
      let c-below = new.parts_below n (command_at d n).c c second in
      cmd_branch d' (command n) (same_command_kind n c ∙ is) (omega arith) (omega arith)
      ∙ rw (
        a,
        b,
        c',
        expr_renumbered (command_at d n).a (new.values_stay n (command_at d n).a c value),
        below (command_at d n).b held.2 (new.parts_stay n (command_at d n).b c first),
        below (command_at d n).c held.3 (new.parts_stay n (command_at d n).c c second),
      )
      (sym (ap (renumbered_cmd state command expression) (cmd_branch d n is held.2 held.3)))
  cmd_at n c below unknown_command is = absurd (command_held n c unknown_command is)

  cmd_below : (f n : ℕ) → n < f → C n → cmd_of d' (command n) ≡ renumbered_cmd state command expression (cmd_of d n)
  cmd_below zero n l c = absurd (omega arith)
  cmd_below (suc f) n l c = cmd_at n c (λ p m stays. cmd_below f p (omega arith) stays) (command_kind (command_at d n).kind) refl

  pub cmd_renumbered : (n : ℕ) → C n → cmd_of d' (command n) ≡ renumbered_cmd state command expression (cmd_of d n)
  cmd_renumbered n c = cmd_below (suc n) n (omega arith) c

-- ---- bodies
module _ (d d' : Design) (state command expression : ℕ → ℕ) (S C E : ℕ → Type 0) (keeps : DesignKeeps d) (new : Renumbers d d' state command expression S C E) where
  pub body_renumbered : (s : ℕ) → S s → body_of d' (state s) ≡ renumbered_cmd state command expression (body_of d s)
  unfolding body_of renumbered_state
  body_renumbered s stays = ap (λ (x : State). cmd_of d' x.command) (new.state_is s stays) ∙ cmd_renumbered keeps new (state_at d s).command (new.body_stays s stays)
