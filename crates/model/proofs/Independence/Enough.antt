-- A cycle never runs out of bodies: a target that a fall leads to has a higher number than its state, so as many bodies as there are states are enough,
-- and more change nothing.
use Prim.Native.Nat.{ℕ, zero, suc, ◌+◌, ◌≤◌, ◌<◌}
use mathlib.Core.Path.{◌≡◌, refl, sym, ◌∙◌}
use mathlib.Core.Bool.{true}
use native.Mathlib.Omega.{arith}
use lib.ListN.{length}
use Rattle.model.specs.declared.Ending.TheVariants.{Goto, Fall}
use Rattle.model.specs.declared.Outcome.{Outcome}
use Rattle.model.specs.declared.Outcome.TheVariants.{Continued, Transferred}
use Rattle.model.specs.Image.{Design}
use Rattle.model.specs.States.{parent}
use Rattle.model.specs.Trees.{body_of}
use Rattle.model.specs.Machine.{Areas, Cycle, after_body, run_from}
use Rattle.model.proofs.Independence.Relation.{Good}
use Rattle.model.specs.Falls.{holds_fall}
use Rattle.model.proofs.Independence.Instances.{AcceptedDesign}
use Rattle.model.proofs.Independence.Path.{ran, left_by, target, Live, left_good, left_live, body_holds, ended, target_live, target_child, parent_lower}

module _ (d : Design) (keeps : AcceptedDesign d) where
  -- only a fall asks for what comes after it
  after_same : (o : Outcome) (s : ℕ) (a : Areas) (one other : Cycle) → (o ≡ Transferred Fall → one ≡ other) → after_body d o s a one ≡ after_body d o s a other
  unfolding after_body
  after_same Continued s a one other h = refl
  after_same (Transferred (Goto t x y)) s a one other h = refl
  after_same (Transferred Fall) s a one other h = rw (h refl) refl

  -- the number of bodies does not matter once it reaches past the last state
  pub enough_bodies : (f g s : ℕ) (a : Areas) → Live d a s → Good d a → length d.states ≤ f + s → length d.states ≤ g + s → run_from d f s a ≡ run_from d g s a
  unfolding run_from
  enough_bodies zero g s a l good hf hg = let state = l.state in absurd (omega arith)
  enough_bodies (suc f) zero s a l good hf hg = let state = l.state in absurd (omega arith)
  enough_bodies (suc f) (suc g) s a l good hf hg =
      let holds : (ran d s a).outcome ≡ Transferred Fall → holds_fall (body_of d s) ≡ true = λ e. sym (body_holds d keeps a.bindings s) ∙ (rw e at (ended d keeps s a good l)).1 in
      after_same (ran d s a).outcome s (left_by d s a) (run_from d f (target a s) (left_by d s a)) (run_from d g (target a s) (left_by d s a)) (λ e.
      let child = target_child d keeps a good s l.state (holds e) in
      let lower : parent d (target a s) < target a s = parent_lower d keeps (target a s) child.state child.no_root in
      let same : parent d (target a s) ≡ s = child.parent_is in
      enough_bodies f g (target a s) (left_by d s a) (left_live d keeps s (target a s) a (target_live d keeps a good s l)) (left_good d keeps s a good) (omega arith) (omega arith))
