-- Commands apart from their node numbers. A command runs by what it says, so two that differ only in node numbers run alike.
use Prim.Native.Nat.{ℕ}
use mathlib.Core.Path.{◌≡◌, refl, sym, ◌∙◌, ap}
use mathlib.Core.List.{List}
use Rattle.model.specs.Image.{Register}
use Rattle.model.specs.Trees.{Expr, constant, register, binary, Cmd, skip, assign, sequence, fall, goto, branch}
use Rattle.model.specs.Bindings.{expr_with, cmd_with}
use Rattle.model.specs.Machine.{eval, Executed, unless_transferred, exec}
use Rattle.model.specs.Falls.{holds_fall}
use Rattle.model.specs.Neighbours.{unnumbered_expr, unnumbered}

eval_unnumbered : (values : List ℕ) (e : Expr) → eval values e ≡ eval values (unnumbered_expr e)
unfolding eval unnumbered_expr
eval_unnumbered values (constant v) = refl
eval_unnumbered values (register m r) = refl
eval_unnumbered values (binary o p q) = rw (eval_unnumbered values p, eval_unnumbered values q) refl

module _ (registers : List Register) where
  exec_unnumbered : (values : List ℕ) (c : Cmd) → exec registers values c ≡ exec registers values (unnumbered c)
  unfolding exec unnumbered
  exec_unnumbered values (skip n) = refl
  exec_unnumbered values (assign n r e) = rw (eval_unnumbered values e) refl
  exec_unnumbered values (sequence n p q) = same (exec registers values p) (exec registers values (unnumbered p)) (exec_unnumbered values p) (exec_unnumbered (exec registers values p).registers q)
    where
      same : (first other : Executed) → first ≡ other → exec registers first.registers q ≡ exec registers first.registers (unnumbered q) → unless_transferred first.outcome first (exec registers first.registers q) ≡ unless_transferred other.outcome other (exec registers other.registers (unnumbered q))
      same first other e h = rw (h, e) refl
  exec_unnumbered values (fall n) = refl
  exec_unnumbered values (goto n t x y) = refl
  exec_unnumbered values (branch n e p q) = rw (eval_unnumbered values e, exec_unnumbered values p, exec_unnumbered values q) refl

holds_unnumbered : (c : Cmd) → holds_fall c ≡ holds_fall (unnumbered c)
unfolding holds_fall unnumbered
holds_unnumbered (skip n) = refl
holds_unnumbered (assign n r e) = refl
holds_unnumbered (sequence n p q) = rw (holds_unnumbered p, holds_unnumbered q) refl
holds_unnumbered (fall n) = refl
holds_unnumbered (goto n t x y) = refl
holds_unnumbered (branch n e p q) = rw (holds_unnumbered p, holds_unnumbered q) refl

-- commands that differ at most in node numbers run alike and hold falls alike
pub exec_alike : (registers : List Register) (p q : Cmd) (values : List ℕ) → unnumbered p ≡ unnumbered q → exec registers values p ≡ exec registers values q
exec_alike registers p q values e = exec_unnumbered registers values p ∙ ap (exec registers values) e ∙ sym (exec_unnumbered registers values q)

pub holds_alike : (p q : Cmd) → unnumbered p ≡ unnumbered q → holds_fall p ≡ holds_fall q
holds_alike p q e = holds_unnumbered p ∙ ap holds_fall e ∙ sym (holds_unnumbered q)

-- with registers bound to their parameters they still differ at most in node numbers
expr_unnumbered_with : (bound : List ℕ) (e : Expr) → unnumbered_expr (expr_with bound e) ≡ expr_with bound (unnumbered_expr e)
unfolding unnumbered_expr expr_with
expr_unnumbered_with bound (constant v) = refl
expr_unnumbered_with bound (register m r) = refl
expr_unnumbered_with bound (binary o p q) = rw (expr_unnumbered_with bound p, expr_unnumbered_with bound q) refl

unnumbered_with : (bound : List ℕ) (c : Cmd) → unnumbered (cmd_with bound c) ≡ cmd_with bound (unnumbered c)
unfolding unnumbered cmd_with
unnumbered_with bound (skip n) = refl
unnumbered_with bound (assign n r e) = rw (expr_unnumbered_with bound e) refl
unnumbered_with bound (sequence n p q) = rw (unnumbered_with bound p, unnumbered_with bound q) refl
unnumbered_with bound (fall n) = refl
unnumbered_with bound (goto n t x y) = refl
unnumbered_with bound (branch n e p q) = rw (expr_unnumbered_with bound e, unnumbered_with bound p, unnumbered_with bound q) refl

pub alike_with : (bound : List ℕ) (p q : Cmd) → unnumbered p ≡ unnumbered q → unnumbered (cmd_with bound p) ≡ unnumbered (cmd_with bound q)
alike_with bound p q e = unnumbered_with bound p ∙ ap (cmd_with bound) e ∙ sym (unnumbered_with bound q)
