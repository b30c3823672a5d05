-- What of a tree does not depend on numbers is the same under new ones: renumbering goes through a tree and changes no constructor.
use Prim.Native.Nat.{ℕ}
use mathlib.Core.Path.{◌≡◌, refl, sym, ◌∙◌}
use mathlib.Core.Logic.{◌↔◌}
use Rattle.model.specs.Trees.{Expr, constant, register, binary, Cmd, skip, assign, sequence, fall, goto, branch, expr_depth, cmd_depth, registers_read}
use Rattle.model.specs.Shape.{transfers}
use Rattle.model.specs.Falls.{holds_fall}
use Rattle.model.specs.Rules.{HoldsFall}
use Rattle.model.proofs.Exact.Falls.{holds_iff}
use Rattle.renumbering.specs.Renumbering.{renumbered_expr, renumbered_cmd}

module _ (state command expression : ℕ → ℕ) where
  -- ---- expressions
  pub same_expr_depth : (e : Expr) → expr_depth (renumbered_expr state command expression e) ≡ expr_depth e
  unfolding expr_depth renumbered_expr
  same_expr_depth (constant v) = refl
  same_expr_depth (register n r) = refl
  same_expr_depth (binary o p q) = rw (same_expr_depth p, same_expr_depth q)

  pub same_registers_read : (e : Expr) → registers_read (renumbered_expr state command expression e) ≡ registers_read e
  unfolding registers_read renumbered_expr
  same_registers_read (constant v) = refl
  same_registers_read (register n r) = refl
  same_registers_read (binary o p q) = rw (same_registers_read p, same_registers_read q)

  -- ---- commands
  pub same_cmd_depth : (c : Cmd) → cmd_depth (renumbered_cmd state command expression c) ≡ cmd_depth c
  unfolding cmd_depth renumbered_cmd
  same_cmd_depth (skip n) = refl
  same_cmd_depth (assign n r e) = refl
  same_cmd_depth (sequence n p q) = rw (same_cmd_depth p, same_cmd_depth q)
  same_cmd_depth (fall n) = refl
  same_cmd_depth (goto n t a b) = refl
  same_cmd_depth (branch n e p q) = rw (same_cmd_depth p, same_cmd_depth q)

  pub same_transfers : (c : Cmd) → transfers (renumbered_cmd state command expression c) ≡ transfers c
  unfolding transfers renumbered_cmd
  same_transfers (skip n) = refl
  same_transfers (assign n r e) = refl
  same_transfers (sequence n p q) = same_transfers q
  same_transfers (fall n) = refl
  same_transfers (goto n t a b) = refl
  same_transfers (branch n e p q) = rw (same_transfers p, same_transfers q)

  pub same_falls : (c : Cmd) → holds_fall (renumbered_cmd state command expression c) ≡ holds_fall c
  unfolding holds_fall renumbered_cmd
  same_falls (skip n) = refl
  same_falls (assign n r e) = refl
  same_falls (sequence n p q) = rw (same_falls p, same_falls q)
  same_falls (fall n) = refl
  same_falls (goto n t a b) = refl
  same_falls (branch n e p q) = rw (same_falls p, same_falls q)

  pub holds_renumbered : (c : Cmd) → HoldsFall (renumbered_cmd state command expression c) ↔ HoldsFall c
  holds_renumbered c = (λ h. holds_iff.0 (sym (same_falls c) ∙ holds_iff.1 h), λ h. holds_iff.0 (same_falls c ∙ holds_iff.1 h))
