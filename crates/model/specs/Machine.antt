-- 01, 'A cycle': evaluation, execution, reset, a goto, and one cycle with its walk.
use Rattle.std.specs.Prelude.{ℕ, zero, suc, ◌*◌, Bool, ◌&&◌, ◌||◌, not, cond, List, [], ◌∷◌, map, eqb, length, get_or, set}
use Rattle.model.specs.declared.Ending.TheVariants.{Goto, Fall}
use Rattle.model.specs.declared.Outcome.{Outcome}
use Rattle.model.specs.declared.Outcome.TheVariants.{Continued, Transferred}
use Rattle.model.specs.Limits.{binding_length}
use Rattle.model.specs.Indices.{tabulate}
use Rattle.model.specs.Image.{Design, Register}
use Rattle.model.specs.States.{parent, is_child, has_child, default_target, within}
use Rattle.model.specs.Trees.{Expr, constant, register, binary, Cmd, skip, assign, sequence, fall, goto, branch}
use Rattle.model.specs.Values.{apply, stored}
use Rattle.model.specs.Bindings.{body_with, bound_by}

-- the value of an expression
unfoldable pub eval : List ℕ → Expr → ℕ
eval values (constant v) = v
eval values (register n r) = get_or values r 0
eval values (binary o p q) = apply o (eval values p) (eval values q)

-- what a command leaves: the registers, and what it came to
pub record Executed : Type 0 where
  pub registers : List ℕ
  pub outcome : Outcome

-- the second part runs where the first did not transfer
abbrev pub unless_transferred : Outcome → Executed → Executed → Executed
unless_transferred Continued first second = second
unless_transferred (Transferred ending) first second = first

-- "A body ends by a goto, with the state it names, or by a fall, and that ending is held inside the outcome of the command."
module _ (registers : List Register) where
  unfoldable pub exec : List ℕ → Cmd → Executed
  exec values (skip n) = record { registers = values; outcome = Continued }
  -- "An assignment shows at the next read." 02, E2: what it stores is cut to the width
  exec values (assign n r e) = record { registers = set values r (stored registers r (eval values e)); outcome = Continued }
  exec values (sequence n p q) =
      let first = exec values p in
      let second = exec first.registers q in
      unless_transferred first.outcome first second
  exec values (fall n) = record { registers = values; outcome = Transferred Fall }
  exec values (goto n t a b) = record { registers = values; outcome = Transferred (Goto t a b) }
  -- "An if takes its first branch when the value is not 0"
  exec values (branch n e p q) =
      let is_zero = eqb (eval values e) 0 in
      let taken = exec values p in
      let other = exec values q in
      cond is_zero other taken

-- "The state is two lent areas: registers .. and targets, one byte per state": their values. 02, E8: "After the targets their area gains two bytes per state"
pub record Areas : Type 0 where
  pub registers : List ℕ
  pub targets : List ℕ
  pub bindings : List ℕ

-- A cycle's effect; "The walk is the list of states whose commands ran."; and the bindings that they ran with: only a goto sets any, and it ends the cycle.
pub record Cycle : Type 0 where
  pub after : Areas
  pub walk : List ℕ
  pub ran_with : List ℕ

-- the areas after the last of some cycles, which began from the areas given
unfoldable pub after_last : Areas → List Cycle → Areas
after_last areas [] = areas
after_last areas (c ∷ more) = after_last c.after more

module _ (d : Design) where
  -- "Reset writes the reset values and default children." 02, E8: bindings are "0 at reset"
  unfoldable pub reset_areas : Areas
  reset_areas =
      record {
        registers = map (λ (r : Register). r.reset) d.registers;
        targets = tabulate (default_target d) (length d.states);
        bindings = tabulate (λ v. 0) (binding_length * length d.states);
      }

  -- "A target is a child of its state; a childless state's is its own number."
  unfoldable pub target_sound : List ℕ → ℕ → Bool
  target_sound targets s = is_child d s (get_or targets s 0) || (not (has_child d s) && eqb (get_or targets s 0) s)

  -- "sets s and all its descendants to default children"
  unfoldable pub cleared : ℕ → List ℕ → List ℕ
  cleared s targets = tabulate (λ q. cond (within d s q) (default_target d q) (get_or targets q 0)) (length targets)

  -- "A goto to s sets s and all its descendants to default children, then the parent's target to s"
  unfoldable pub gone_to : ℕ → List ℕ → List ℕ
  gone_to s targets = set (cleared s targets) (parent d s) s

  -- What follows the body of s, by how it ended; `fell` is the cycle that goes on with the target's command. "A fall runs the target's command.
  -- A goto .. ends the cycle." A body that did not transfer, which no accepted design has, ends it too.
  unfoldable pub after_body : Outcome → ℕ → Areas → Cycle → Cycle
  after_body Continued s areas fell = record { after = areas; walk = s ∷ []; ran_with = areas.bindings }
  after_body (Transferred (Goto t a b)) s areas fell =
      record {
        after = record { registers = areas.registers; targets = gone_to t areas.targets; bindings = bound_by d t a b areas.bindings };
        walk = s ∷ [];
        ran_with = areas.bindings;
      }
  after_body (Transferred Fall) s areas fell = record { after = fell.after; walk = s ∷ fell.walk; ran_with = fell.ran_with }

  -- The command of s runs, and what follows it. A target has a higher number than its state, so no more bodies run than there are states.
  unfoldable pub run_from : ℕ → ℕ → Areas → Cycle
  run_from zero s areas = record { after = areas; walk = []; ran_with = areas.bindings }
  run_from (suc bodies) s areas =
      let executed = exec d.registers areas.registers (body_with d areas.bindings s) in
      let left : Areas = record { registers = executed.registers; targets = areas.targets; bindings = areas.bindings } in
      let fell = run_from bodies (get_or areas.targets s 0) left in
      after_body executed.outcome s left fell

  -- "A cycle runs the root's command."
  unfoldable pub cycle : Areas → Cycle
  cycle areas = run_from (length d.states) 0 areas

  -- n cycles, "each by the step rules from the areas before it"
  unfoldable pub cycles : ℕ → Areas → List Cycle
  cycles zero areas = []
  cycles (suc n) areas = let first = cycle areas in first ∷ cycles n first.after

  -- "the areas after the last are what the call leaves"
  unfoldable pub after_cycles : ℕ → Areas → Areas
  after_cycles n areas = after_last areas (cycles n areas)
