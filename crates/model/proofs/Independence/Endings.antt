-- How a command can end: it transfers exactly where its shape says so, a goto is to a sibling or to the state itself, and the context flows to where it goes.
use Prim.Native.Nat.{ℕ}
use mathlib.Core.Path.{◌≡◌, refl, sym, ◌∙◌}
use mathlib.Core.Bool.{Bool, true, false, cond}
use mathlib.Core.List.{List, ◌++◌}
use lib.Dec.{eqb}
use Rattle.model.specs.declared.Ending.TheVariants.{Goto, Fall}
use Rattle.model.specs.declared.Outcome.{Outcome}
use Rattle.model.specs.declared.Outcome.TheVariants.{Continued, Transferred}
use Rattle.model.specs.Image.{Design}
use Rattle.model.specs.Lattice.{all_flow_to}
use Rattle.model.specs.States.{sibling_or_self}
use Rattle.model.specs.Trees.{Expr, Cmd, skip, assign, sequence, fall, goto, branch}
use Rattle.model.specs.Shape.{transfers}
use Rattle.model.specs.Falls.{holds_fall}
use Rattle.model.specs.Rules.{Shaped}
use Rattle.model.specs.Bindings.{label_with}
use Rattle.model.specs.Machine.{eval, Executed, unless_transferred, exec}
use Rattle.model.proofs.Laws.Booleans.{and_both, and_false, or_first, or_second, true_or_false}
use Rattle.model.proofs.Laws.Joins.{all_flow_first}
use Rattle.model.proofs.Independence.Instances.{read_labels, GotoRuns, RunFlows}

module _ (d : Design) (bindings : List ℕ) (s : ℕ) where
  -- what a command's outcome tells: whether it transfers; that a goto is to a sibling or to s itself, and the context flows there; that a fall is held,
  -- and the context flows to s
  abbrev pub Ended : List ℕ → Cmd → Outcome → Type 0
  Ended context c Continued = transfers c ≡ false
  Ended context c (Transferred Fall) = (transfers c ≡ true) × (holds_fall c ≡ true) × (all_flow_to d.rows context (label_with d bindings s) ≡ true)
  Ended context c (Transferred (Goto t x y)) = (transfers c ≡ true) × (sibling_or_self d s t ≡ true) × GotoRuns d bindings context t x y

  -- a sequence ends as its second part, since the first never transfers
  ends_sequence : (context : List ℕ) (n : ℕ) (p q : Cmd) (o : Outcome) (first second : Executed) → transfers p ≡ false → Ended context p o → Ended context q second.outcome → Ended context (sequence n p q) (unless_transferred o first second).outcome
  unfolding transfers holds_fall
  ends_sequence context n p q Continued first second no-transfer e k = as_second second.outcome k
    where
      as_second : (o : Outcome) → Ended context q o → Ended context (sequence n p q) o
      as_second Continued k = k
      as_second (Transferred Fall) k = (k.0, or_second (holds_fall p) (holds_fall q) k.1, k.2)
      as_second (Transferred (Goto t x y)) k = k
  ends_sequence context n p q (Transferred Fall) first second no-transfer e k = absurd (true_or_false (transfers p) e.0 no-transfer)
  ends_sequence context n p q (Transferred (Goto t x y)) first second no-transfer e k = absurd (true_or_false (transfers p) e.0 no-transfer)

  -- an if ends as the branch that it takes, since both branches transfer or none does
  module _ (context : List ℕ) (n : ℕ) (e : Expr) (p q : Cmd) (same : transfers p ≡ transfers q) where
    outside : {t x y : ℕ} → GotoRuns d bindings (context ++ read_labels d e) t x y → GotoRuns d bindings context t x y
    outside k = record { flows = all_flow_first d.rows context (read_labels d e) _ k.flows; label = k.label; first = k.first; second = k.second }

    ends_first : (o : Outcome) → Ended (context ++ read_labels d e) p o → Ended context (branch n e p q) o
    unfolding transfers holds_fall
    ends_first Continued k = and_false (transfers p) (transfers q) k
    ends_first (Transferred Fall) k =
        (and_both (transfers p) (transfers q) k.0 (sym same ∙ k.0), or_first (holds_fall p) (holds_fall q) k.1, all_flow_first d.rows context (read_labels d e) (label_with d bindings s) k.2)
    ends_first (Transferred (Goto t x y)) k =
        (and_both (transfers p) (transfers q) k.0 (sym same ∙ k.0), k.1, outside k.2)

    ends_second : (o : Outcome) → Ended (context ++ read_labels d e) q o → Ended context (branch n e p q) o
    unfolding transfers holds_fall
    ends_second Continued k = and_false (transfers p) (transfers q) (same ∙ k)
    ends_second (Transferred Fall) k =
        (and_both (transfers p) (transfers q) (same ∙ k.0) k.0, or_second (holds_fall p) (holds_fall q) k.1, all_flow_first d.rows context (read_labels d e) (label_with d bindings s) k.2)
    ends_second (Transferred (Goto t x y)) k =
        (and_both (transfers p) (transfers q) (same ∙ k.0) k.0, k.1, outside k.2)

    ends_branch : (is_zero : Bool) (taken other : Executed) → Ended (context ++ read_labels d e) p taken.outcome → Ended (context ++ read_labels d e) q other.outcome → Ended context (branch n e p q) (cond is_zero other taken).outcome
    ends_branch true taken other k l = ends_second other.outcome l
    ends_branch false taken other k l = ends_first taken.outcome k

  pub exec_ends : (context values : List ℕ) (c : Cmd) → Shaped d s c → RunFlows d bindings s context c → Ended context c (exec d.registers values c).outcome
  unfolding exec transfers holds_fall
  exec_ends context values (skip n) shaped flows = refl
  exec_ends context values (assign n r e) shaped flows = refl
  exec_ends context values (sequence n p q) shaped flows =
      ends_sequence
      context
      n
      p
      q
      (exec d.registers values p).outcome
      (exec d.registers values p)
      (exec d.registers (exec d.registers values p).registers q)
      shaped.0
      (exec_ends context values p shaped.1 flows.0)
      (exec_ends context (exec d.registers values p).registers q shaped.2 flows.1)
  exec_ends context values (fall n) shaped flows = (refl, refl, flows)
  exec_ends context values (goto n t x y) shaped flows = (refl, shaped, flows)
  exec_ends context values (branch n e p q) shaped flows =
      ends_branch
      context
      n
      e
      p
      q
      shaped.0
      (eqb (eval values e) 0)
      (exec d.registers values p)
      (exec d.registers values q)
      (exec_ends (context ++ read_labels d e) values p shaped.1 flows.0)
      (exec_ends (context ++ read_labels d e) values q shaped.2 flows.1)
