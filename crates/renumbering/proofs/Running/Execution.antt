-- A body under new numbers leaves the same registers and ends as before, a goto at the new number of the state it names: no value depends on the number of a node or a state.
use Prim.Native.Nat.{ℕ}
use mathlib.Core.Path.{◌≡◌, refl}
use mathlib.Core.Bool.{Bool, true, false, cond}
use mathlib.Core.List.{List}
use lib.Dec.{eqb}
use Rattle.model.specs.declared.Ending.TheVariants.{Goto, Fall}
use Rattle.model.specs.declared.Outcome.{Outcome}
use Rattle.model.specs.declared.Outcome.TheVariants.{Continued, Transferred}
use Rattle.model.specs.Image.{Register}
use Rattle.model.specs.Trees.{Expr, constant, register, binary, Cmd, skip, assign, sequence, fall, goto, branch}
use Rattle.model.specs.Bindings.{expr_with, cmd_with}
use Rattle.model.specs.Machine.{eval, Executed, unless_transferred, exec}
use Rattle.model.proofs.Laws.Commands.{sequence_all, branch_all}
use Rattle.renumbering.specs.Renumbering.{renumbered_expr, renumbered_cmd}
use Rattle.renumbering.proofs.Bodies.{NamedStay}

-- an outcome, and what a command leaves, with new numbers for the states
abbrev pub outcome_under : (ℕ → ℕ) → Outcome → Outcome
outcome_under state Continued = Continued
outcome_under state (Transferred Fall) = Transferred Fall
outcome_under state (Transferred (Goto t a b)) = Transferred (Goto (state t) a b)

abbrev pub executed_under : (ℕ → ℕ) → Executed → Executed
executed_under state x = record { registers = x.registers; outcome = outcome_under state x.outcome }

-- ---- execution
module _ (state command expression : ℕ → ℕ) where
  eval_renumbered : (bound values : List ℕ) (e : Expr) → eval values (expr_with bound (renumbered_expr state command expression e)) ≡ eval values (expr_with bound e)
  unfolding eval expr_with renumbered_expr
  eval_renumbered bound values (constant v) = refl
  eval_renumbered bound values (register n r) = refl
  eval_renumbered bound values (binary o p q) = rw (eval_renumbered bound values p, eval_renumbered bound values q)

  under_sequence : (o : Outcome) (first second : Executed) → unless_transferred (outcome_under state o) (executed_under state first) (executed_under state second) ≡ executed_under state (unless_transferred o first second)
  under_sequence Continued first second = refl
  under_sequence (Transferred Fall) first second = refl
  under_sequence (Transferred (Goto t a b)) first second = refl

  under_branch : (is_zero : Bool) (other taken : Executed) → cond is_zero (executed_under state other) (executed_under state taken) ≡ executed_under state (cond is_zero other taken)
  under_branch true other taken = refl
  under_branch false other taken = refl

  pub exec_renumbered : (registers : List Register) (bound values : List ℕ) (c : Cmd)
      → exec registers values (cmd_with bound (renumbered_cmd state command expression c)) ≡ executed_under state (exec registers values (cmd_with bound c))
  unfolding exec cmd_with renumbered_cmd
  exec_renumbered registers bound values (skip n) = refl
  exec_renumbered registers bound values (assign n r e) = rw (eval_renumbered bound values e)
  exec_renumbered registers bound values (sequence n p q) =
      let first = exec registers values (cmd_with bound p) in
      rw (exec_renumbered registers bound values p, exec_renumbered registers bound first.registers q)
      (under_sequence first.outcome first (exec registers first.registers (cmd_with bound q)))
  exec_renumbered registers bound values (fall n) = refl
  exec_renumbered registers bound values (goto n t a b) = refl
  exec_renumbered registers bound values (branch n e p q) =
      rw (eval_renumbered bound values e, exec_renumbered registers bound values p, exec_renumbered registers bound values q)
      (under_branch (eqb (eval values (expr_with bound e)) 0) (exec registers values (cmd_with bound q)) (exec registers values (cmd_with bound p)))

-- ---- gotos to states that stay
-- an outcome is at a state that stays
abbrev pub EndStays : (ℕ → Type 0) → Outcome → Type 0
EndStays S Continued = Unit {0}
EndStays S (Transferred Fall) = Unit {0}
EndStays S (Transferred (Goto t a b)) = S t

pub end_stays : (S : ℕ → Type 0) (registers : List Register) (bound values : List ℕ) (c : Cmd) → NamedStay S c → EndStays S (exec registers values (cmd_with bound c)).outcome
unfolding exec cmd_with
end_stays S registers bound values (skip n) h = tt
end_stays S registers bound values (assign n r e) h = tt
end_stays S registers bound values (sequence n p q) h =
    sequence_all
    registers
    (λ x. EndStays S x.outcome)
    values
    n
    (cmd_with bound p)
    (cmd_with bound q)
    (end_stays S registers bound values p h.0)
    (end_stays S registers bound (exec registers values (cmd_with bound p)).registers q h.1)
end_stays S registers bound values (fall n) h = tt
end_stays S registers bound values (goto n t a b) h = h
end_stays S registers bound values (branch n e p q) h =
    branch_all
    registers
    (λ x. EndStays S x.outcome)
    values
    n
    (expr_with bound e)
    (cmd_with bound p)
    (cmd_with bound q)
    (end_stays S registers bound values p h.0)
    (end_stays S registers bound values q h.1)
