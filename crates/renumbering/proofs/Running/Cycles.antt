-- A cycle under new numbers walks the same states and leaves the same areas: both run the bodies of the same states one after the other, a fall goes on at targets that are the same, and
-- neither runs out of bodies, since a target has a higher number than its state. Every state of the walk stays: the root does, and so does the target of one that stays and falls.
use Prim.Native.Nat.{ℕ, zero, suc, ◌+◌, ◌≤◌, ◌<◌}
use mathlib.Core.Path.{◌≡◌, refl, sym, ◌∙◌, ap}
use mathlib.Core.Logic.{⊎_elim}
use mathlib.Core.Bool.{true}
use mathlib.Core.List.Memᴰ
use mathlib.Core.List.{List, [], ◌∷◌, map, Memᴰ}
use native.Mathlib.Omega.{arith}
use lib.ListN.{length}
use Rattle.model.specs.declared.Ending.TheVariants.{Goto, Fall}
use Rattle.model.specs.declared.Outcome.{Outcome}
use Rattle.model.specs.declared.Outcome.TheVariants.{Continued, Transferred}
use Rattle.model.specs.Image.{Design}
use Rattle.model.specs.States.{parent}
use Rattle.model.specs.Trees.{body_of}
use Rattle.model.specs.Falls.{holds_fall}
use Rattle.model.specs.Machine.{Areas, Cycle, Executed, after_body, run_from, cycle}
use Rattle.model.proofs.Exact.Falls.{holds_iff}
use Rattle.model.proofs.Independence.Instances.{AcceptedDesign}
use Rattle.model.proofs.Independence.Path.{ran, left_by, target, Live, left_good, left_live, body_holds, ended, ended_left, target_live, target_child, parent_lower, root_live}
use Rattle.renumbering.specs.Renumbers.{Renumbers}
use Rattle.renumbering.proofs.Running.Execution.{outcome_under, EndStays}
use Rattle.renumbering.proofs.Running.Areas.{Same, same_ran, ran_stays}
use Rattle.renumbering.proofs.Running.Gotos.{rules_of, EndedBy, gone_same}

-- two cycles, or rests of cycles, that are the same under new numbers
pub record Together (d d' : Design) (state : ℕ → ℕ) (S : ℕ → Type 0) (c c' : Cycle) : Type 0 where
  pub after : Same d d' state S c.after c'.after
  pub walk : c'.walk ≡ map state c.walk
  pub stay : (s : ℕ) → Memᴰ s c.walk → S s

module _ {d d' : Design} {state command expression : ℕ → ℕ} {S C E : ℕ → Type 0} (keeps : AcceptedDesign d) (keeps' : AcceptedDesign d') (new : Renumbers d d' state command expression S C E) where
  -- ---- one body
  left_same : (s : ℕ) (a a' : Areas) → S s → Same d d' state S a a' → Same d d' state S (left_by d s a) (left_by d' (state s) a')
  left_same s a a' stays same =
      record {
        registers = ap (λ (x : Executed). x.registers) (same_ran (rules_of keeps) new a a' same s stays);
        targets = same.targets;
        bindings = same.bindings;
        good = left_good d keeps s a same.good;
        good' = left_good d' keeps' (state s) a' same.good';
      }

  -- a walk that ends with a state that stays, and one that goes on from it
  only_stays : (s : ℕ) → S s → (t : ℕ) → Memᴰ t (s ∷ []) → S t
  only_stays s stays t h = rw (Memᴰ.eq_of_singleton h) stays

  more_stay : (s : ℕ) (walk : List ℕ) → S s → ((t : ℕ) → Memᴰ t walk → S t) → (t : ℕ) → Memᴰ t (s ∷ walk) → S t
  more_stay s walk stays others t h = ⊎_elim (λ (e : t ≡ s). rw e stays) (λ (k : Memᴰ t walk). others t k) (Memᴰ.cases_cons h)

  -- what follows it
  after_together : (o : Outcome) (s : ℕ) (a a' : Areas) (fell fell' : Cycle) → S s → Same d d' state S a a' → EndStays S o
      → EndedBy d s a o
      → EndedBy d' (state s) a' (outcome_under state o)
      → (o ≡ Transferred Fall → Together d d' state S fell fell')
      → Together d d' state S (after_body d o s a fell) (after_body d' (outcome_under state o) (state s) a' fell')
  unfolding after_body
  after_together Continued s a a' fell fell' stays same named e e' below = record { after = same; walk = refl; stay = only_stays s stays }
  after_together (Transferred Fall) s a a' fell fell' stays same named e e' below =
      record {
        after = (below refl).after;
        walk = ap (λ (walk : List ℕ). state s ∷ walk) (below refl).walk;
        stay = more_stay s fell.walk stays (below refl).stay;
      }
  after_together (Transferred (Goto t x y)) s a a' fell fell' stays same named e e' below =
      record { after = gone_same keeps keeps' new s t x y a a' stays named same e e'; walk = refl; stay = only_stays s stays }

  -- ---- the bodies from a state on the path
  run_together : (f f' s : ℕ) (a a' : Areas) → S s → Same d d' state S a a' → Live d a s → Live d' a' (state s)
      → length d.states ≤ f + s
      → length d'.states ≤ f' + state s
      → Together d d' state S (run_from d f s a) (run_from d' f' (state s) a')
  unfolding run_from
  run_together zero f' s a a' stays same live live' h h' = let there = live.state in absurd (omega arith)
  run_together (suc f) zero s a a' stays same live live' h h' = let there = live'.state in absurd (omega arith)
  run_together (suc f) (suc f') s a a' stays same live live' h h' =
      let ends : (ran d' (state s) a').outcome ≡ outcome_under state (ran d s a).outcome = ap (λ (x : Executed). x.outcome) (same_ran (rules_of keeps) new a a' same s stays) in
      let left = left_same s a a' stays same in
      let holds : (ran d s a).outcome ≡ Transferred Fall → holds_fall (body_of d s) ≡ true = λ e. sym (body_holds d keeps a.bindings s) ∙ (rw e at (ended d keeps s a same.good live)).1 in
      rw
      ends
      (after_together
      (ran d s a).outcome
      s
      (left_by d s a)
      (left_by d' (state s) a')
      (run_from d f (target a s) (left_by d s a))
      (run_from d' f' (target a' (state s)) (left_by d' (state s) a'))
      stays
      left
      (ran_stays (rules_of keeps) new a s stays)
      (ended_left d keeps s a same.good live)
      (rw ends at (ended_left d' keeps' (state s) a' same.good' live'))
      (λ e.
      let (kept, is) = same.targets s stays (holds_iff.0 (holds e)) in
      let child = target_child d keeps a same.good s live.state (holds e) in
      let lower : parent d (target a s) < target a s = parent_lower d keeps (target a s) child.state child.no_root in
      let above : parent d (target a s) ≡ s = child.parent_is in
      let up : state s < state (target a s) = new.states_order s (target a s) stays kept (omega arith) in
      let live-target = left_live d keeps s (target a s) a (target_live d keeps a same.good s live) in
      let live-target' = left_live d' keeps' (state s) (target a' (state s)) a' (target_live d' keeps' a' same.good' (state s) live') in
      rw is (run_together f f' (target a s) (left_by d s a) (left_by d' (state s) a') kept left live-target (rw is at live-target') (omega arith) (omega arith))))

  -- ---- a cycle
  pub cycle_together : (a a' : Areas) → Same d d' state S a a' → Together d d' state S (cycle d a) (cycle d' a')
  unfolding cycle
  cycle_together a a' same =
      let root : state 0 ≡ 0 = new.root_first in
      let there : state 0 < length d'.states = new.states_new 0 new.root_stays in
      let live = root_live d keeps a (new.states_old 0 new.root_stays) in
      let live' : Live d' a' (state 0) = rw root (root_live d' keeps' a' (rw root at there)) in
      rw root at (run_together (length d.states) (length d'.states) 0 a a' new.root_stays same live live' (omega arith) (omega arith))
