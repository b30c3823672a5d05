-- What holds of what the parts of a command leave holds of what it leaves: a sequence leaves what one of its parts left, an if what a branch left. So no
-- command changes how many values there are.
use Prim.Native.Nat.{ℕ}
use mathlib.Core.Path.{◌≡◌, refl, ◌∙◌}
use mathlib.Core.Bool.{Bool, true, false, cond}
use mathlib.Core.List.{List}
use lib.Dec.{eqb}
use lib.ListN.{length, length-set}
use Rattle.model.specs.declared.Outcome.{Outcome}
use Rattle.model.specs.declared.Outcome.TheVariants.{Continued, Transferred}
use Rattle.model.specs.Image.{Register}
use Rattle.model.specs.Trees.{Expr, Cmd, skip, assign, sequence, fall, goto, branch}
use Rattle.model.specs.Machine.{eval, exec, Executed, unless_transferred}

module _ (registers : List Register) where
  module _ (P : Executed → Type 0) (values : List ℕ) (n : ℕ) where
    pub sequence_all : (p q : Cmd) → P (exec registers values p) → P (exec registers (exec registers values p).registers q) → P (exec registers values (sequence n p q))
    unfolding exec
    sequence_all p q h k = go (exec registers values p).outcome
      where
        go : (o : Outcome) → P (unless_transferred o (exec registers values p) (exec registers (exec registers values p).registers q))
        go Continued = k
        go (Transferred ending) = h

    pub branch_all : (e : Expr) (p q : Cmd) → P (exec registers values p) → P (exec registers values q) → P (exec registers values (branch n e p q))
    unfolding exec
    branch_all e p q h k = go (eqb (eval values e) 0)
      where
        go : (b : Bool) → P (cond b (exec registers values q) (exec registers values p))
        go true = k
        go false = h

  pub exec_length : (values : List ℕ) (c : Cmd) → length (exec registers values c).registers ≡ length values
  unfolding exec
  exec_length values (skip n) = refl
  exec_length values (assign n r e) = length-set values r _
  exec_length values (sequence n p q) =
      let after = exec_length values p in
      sequence_all (λ x. length x.registers ≡ length values) values n p q after (exec_length (exec registers values p).registers q ∙ after)
  exec_length values (fall n) = refl
  exec_length values (goto n t x y) = refl
  exec_length values (branch n e p q) =
      branch_all (λ x. length x.registers ≡ length values) values n e p q (exec_length values p) (exec_length values q)
