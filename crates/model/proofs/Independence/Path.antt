-- The live path of one run: the root, its target, that one's target, .., continued only from states that hold a fall. A run leaves good areas good, and
-- the path goes on where the run went: a goto changes nothing numbered below its parent, and sets the parent's target to the state that it names.
use Prim.Native.Nat.{ℕ, zero, suc, ◌*◌, ◌≤◌, ◌<◌}
use mathlib.Core.Path.{◌≡◌, refl, sym, ◌∙◌}
use mathlib.Core.Logic.{◌⊎◌, inl, inr, ⊎_elim, ◌≢◌}
use mathlib.Core.Bool.{true, false, ◌&&◌, not}
use mathlib.Core.List.{List, [], ◌∷◌}
use native.Mathlib.Omega.{arith}
use native.Mathlib.Decide.{ℕ_discrete}
use lib.Dec.{eqb}
use lib.ListN.{length, get_or}
use borrow.Author.Tests.{eqb-true}
use Rattle.model.specs.declared.Ending.TheVariants.{Goto, Fall}
use Rattle.model.specs.declared.Outcome.{Outcome}
use Rattle.model.specs.declared.Outcome.TheVariants.{Continued, Transferred}
use Rattle.model.specs.Image.{Design}
use Rattle.model.specs.Lattice.{state_label}
use Rattle.model.specs.States.{parent, is_child, has_child}
use Rattle.model.specs.Trees.{Cmd, skip, assign, sequence, fall, goto, branch, body_of}
use Rattle.model.specs.Falls.{holds_fall}
use Rattle.model.specs.Bindings.{cmd_with, bound_in, body_with, label_with, bound_by, on_path, bound_sound}
use Rattle.model.specs.Parameters.{all_of, scope_of}
use Rattle.model.specs.Shape.{transfers}
use Rattle.model.specs.Limits.{binding_length}
use Rattle.model.specs.Rules.{Shaped}
use Rattle.model.specs.Machine.{Areas, Cycle, Executed, exec, target_sound, gone_to, after_body, run_from}
use Rattle.model.proofs.Laws.Booleans.{and_second, or_cases, true_or_false}
use Rattle.model.proofs.Laws.States.{ChildOf, child_of, sound_child, sibling_child, sibling_no_root}
use Rattle.model.proofs.Laws.Gotos.{length-gone, gone_parent, gone_below, gone_sound}
use Rattle.model.proofs.Independence.Relation.{Good}
use Rattle.model.proofs.Independence.Endings.{Ended, exec_ends}
use Rattle.model.proofs.Laws.Commands.{exec_length}
use Rattle.model.proofs.Laws.Spares.{body_spares}
use Rattle.model.proofs.Laws.Paths.{path_root, path_child, path_above}
use Rattle.model.proofs.Laws.Bindings.{path_named, scope_sound, bound_other, length-bound, gone_bound}
use Rattle.model.proofs.Independence.Instances.{AcceptedDesign, rooted, RunFlows, flows_with, label_with_lem}
use Rattle.model.proofs.Independence.Widths.{exec_fitting}

-- a fall that a command holds has a child to go to
pub fall_child : (d : Design) (s : ℕ) (c : Cmd) → Shaped d s c → holds_fall c ≡ true → has_child d s ≡ true
unfolding holds_fall
fall_child d s (skip n) shaped h = absurd (true_or_false false h refl)
fall_child d s (assign n r e) shaped h = absurd (true_or_false false h refl)
fall_child d s (sequence n p q) shaped h = ⊎_elim (fall_child d s p shaped.1) (fall_child d s q shaped.2) (or_cases (holds_fall p) (holds_fall q) h)
fall_child d s (fall n) shaped h = shaped
fall_child d s (goto n t x y) shaped h = absurd (true_or_false false h refl)
fall_child d s (branch n e p q) shaped h = ⊎_elim (fall_child d s p shaped.1) (fall_child d s q shaped.2) (or_cases (holds_fall p) (holds_fall q) h)

-- the state at which the live path goes on after a body: the one that a goto names, else the same
abbrev pub entry_of : Outcome → ℕ → ℕ
entry_of Continued s = s
entry_of (Transferred Fall) s = s
entry_of (Transferred (Goto t x y)) s = t

module _ (d : Design) where
  -- what the body of s makes of the areas
  abbrev pub ran : ℕ → Areas → Executed
  ran s a = exec d.registers a.registers (body_with d a.bindings s)

  abbrev pub left_by : ℕ → Areas → Areas
  left_by s a = record { registers = (ran s a).registers; targets = a.targets; bindings = a.bindings }

  -- the state at which the path goes on after a run from s, and the areas that the run leaves
  abbrev pub entry : ℕ → ℕ → Areas → ℕ
  entry zero s a = s
  entry (suc f) s a = entry_of (ran s a).outcome s

  abbrev pub after : ℕ → ℕ → Areas → Areas
  after f s a = (run_from d f s a).after

  -- what a run from s leaves above s: below the parent of s no target changes, the parent points to where the path goes on, and what is bound to the parameters of
  -- the parent and of the states below it in number stays
  pub record Above (before : Areas) (s goes_on : ℕ) (after : Areas) : Type 0 where
    pub below : (q : ℕ) → q < parent d s → get_or after.targets q 0 ≡ get_or before.targets q 0
    pub points : s ≢ 0 → get_or before.targets (parent d s) 0 ≡ s → get_or after.targets (parent d s) 0 ≡ goes_on
    pub kept : (v : ℕ) → v < binding_length * suc (parent d s) → get_or after.bindings v 0 ≡ get_or before.bindings v 0

  -- a state along the current targets
  pub record Live (a : Areas) (s : ℕ) : Type 0 where
    pub state : s < length d.states
    pub on : on_path d a.targets s ≡ true

abbrev pub target : Areas → ℕ → ℕ
target a s = get_or a.targets s 0

-- a body with registers bound to its parameters has its shape
module _ (bound : List ℕ) where
  pub transfers_with : (c : Cmd) → transfers (cmd_with bound c) ≡ transfers c
  unfolding transfers cmd_with
  transfers_with (skip n) = refl
  transfers_with (assign n r e) = refl
  transfers_with (sequence n p q) = transfers_with q
  transfers_with (fall n) = refl
  transfers_with (goto n t x y) = refl
  transfers_with (branch n e p q) = rw (transfers_with p, transfers_with q) refl

  pub holds_with : (c : Cmd) → holds_fall (cmd_with bound c) ≡ holds_fall c
  unfolding holds_fall cmd_with
  holds_with (skip n) = refl
  holds_with (assign n r e) = refl
  holds_with (sequence n p q) = rw (holds_with p, holds_with q) refl
  holds_with (fall n) = refl
  holds_with (goto n t x y) = refl
  holds_with (branch n e p q) = rw (holds_with p, holds_with q) refl

  pub shaped_with : (d : Design) (s : ℕ) (c : Cmd) → Shaped d s c → Shaped d s (cmd_with bound c)
  unfolding cmd_with
  shaped_with d s (skip n) shaped = tt
  shaped_with d s (assign n r e) shaped = tt
  shaped_with d s (sequence n p q) shaped = (transfers_with p ∙ shaped.0, shaped_with d s p shaped.1, shaped_with d s q shaped.2)
  shaped_with d s (fall n) shaped = shaped
  shaped_with d s (goto n t x y) shaped = shaped
  shaped_with d s (branch n e p q) shaped = (transfers_with p ∙ shaped.0 ∙ sym (transfers_with q), shaped_with d s p shaped.1, shaped_with d s q shaped.2)

module _ (d : Design) (keeps : AcceptedDesign d) where
  pub parent_lower : (s : ℕ) → s < length d.states → s ≢ 0 → parent d s < s
  parent_lower s l h = (keeps.structure.states s l).parent_below h

  pub left_good : (s : ℕ) (a : Areas) → Good d a → Good d (left_by d s a)
  left_good s a good =
      record {
        registers_length = exec_length d.registers a.registers (body_with d a.bindings s) ∙ good.registers_length;
        targets_length = good.targets_length;
        fitting = exec_fitting d.registers a.registers (body_with d a.bindings s) good.fitting;
        sound = good.sound;
        bindings_length = good.bindings_length;
        bound = good.bound;
      }

  -- on the path every parameter in scope is soundly bound
  pub live_sound : (a : Areas) → Good d a → (s : ℕ) → Live d a s → all_of (bound_sound d a.bindings) (scope_of d s) ≡ true
  live_sound a good s live = scope_sound d (rooted d keeps) a.targets a.bindings good.bound s live.state live.on

  pub live_label : (a : Areas) → Good d a → (s : ℕ) → Live d a s → label_with d a.bindings s < length d.rows
  live_label a good s live = label_with_lem d keeps a.bindings s live.state (live_sound a good s live)

  pub body_shaped : (s : ℕ) → s < length d.states → (bindings : List ℕ) → Shaped d s (body_with d bindings s)
  unfolding body_with
  body_shaped s l bindings = shaped_with (bound_in d bindings s) d s (body_of d s) (keeps.structure.shaped s l)

  pub body_holds : (bindings : List ℕ) (s : ℕ) → holds_fall (body_with d bindings s) ≡ holds_fall (body_of d s)
  unfolding body_with
  body_holds bindings s = holds_with (bound_in d bindings s) (body_of d s)

  -- the body of a state on the path keeps the flow rules as it runs
  pub body_flows : (a : Areas) → Good d a → (s : ℕ) → Live d a s → RunFlows d a.bindings s (label_with d a.bindings s ∷ []) (body_with d a.bindings s)
  unfolding body_with label_with
  body_flows a good s live =
      flows_with d keeps a.bindings s live.state (live_sound a good s live) good.bindings_length (state_label d s ∷ []) (body_of d s) (keeps.structure.shaped s live.state) (keeps.structure.scoped s live.state) (body_spares d keeps.structure s) (keeps.flowing s live.state)

  pub ended : (s : ℕ) (a : Areas) → Good d a → Live d a s → Ended d a.bindings s (label_with d a.bindings s ∷ []) (body_with d a.bindings s) (ran d s a).outcome
  ended s a good live = exec_ends d a.bindings s (label_with d a.bindings s ∷ []) a.registers (body_with d a.bindings s) (body_shaped s live.state a.bindings) (body_flows a good s live)

  -- ---- targets
  -- a target of a sound table is a child, or the state itself where it has none; it is on the path where its state is
  pub target_live : (a : Areas) → Good d a → (s : ℕ) → Live d a s → Live d a (target a s)
  unfolding target_sound
  target_live a good s live = go (or_cases (is_child d s (target a s)) (not (has_child d s) && eqb (target a s) s) (good.sound s live.state))
    where
      go : (is_child d s (target a s) ≡ true) ⊎ ((not (has_child d s) && eqb (target a s) s) ≡ true) → Live d a (target a s)
      go (inl h) =
          let child = child_of d s (target a s) h in
          let low = parent_lower (target a s) child.state child.no_root in
          record { state = child.state; on = path_child d a.targets s (target a s) child (rw child.parent_is at low) live.on refl }
      go (inr h) = rw (eqb-true (target a s) s (and_second (not (has_child d s)) (eqb (target a s) s) h)) live

  -- a state that holds a fall has a child for its target
  pub target_child : (a : Areas) → Good d a → (s : ℕ) → s < length d.states → holds_fall (body_of d s) ≡ true → ChildOf d s (target a s)
  target_child a good s l h = sound_child d a.targets s (good.sound s l) (fall_child d s (body_of d s) (keeps.structure.shaped s l) h)

  -- ---- good areas stay good
  abbrev pub gone : ℕ → ℕ → ℕ → Areas → Areas
  gone t x y a = record { registers = a.registers; targets = gone_to d t a.targets; bindings = bound_by d t x y a.bindings }

  abbrev EndedBy : ℕ → Areas → Outcome → Type 0
  EndedBy s a o = Ended d a.bindings s (label_with d a.bindings s ∷ []) (body_with d a.bindings s) o

  pub gone_good : (s t x y : ℕ) (a : Areas) → s < length d.states → Good d a → EndedBy s a (Transferred (Goto t x y)) → Good d (gone t x y a)
  gone_good s t x y a l good e =
      let child = sibling_child d s t e.1 in
      let below = parent_lower s l (sibling_no_root d s t e.1) in
      let size = good.targets_length in
      record {
        registers_length = good.registers_length;
        targets_length = length-gone d t a.targets ∙ size;
        fitting = good.fitting;
        sound = λ q k. gone_sound d (parent d s) t a.targets child (omega arith) (λ p h. good.sound p (omega arith)) q (omega arith);
        bindings_length = length-bound d (rooted d keeps) t x y a.bindings ∙ good.bindings_length;
        bound = gone_bound d (rooted d keeps) t x y a.targets (parent d s) child size a.bindings good.bindings_length keeps.structure.parameters good.bound e.2.first e.2.second;
      }

  -- the state that a goto names is on the path that it leaves
  pub gone_live : (s t x y : ℕ) (a : Areas) → Live d a s → Good d a → EndedBy s a (Transferred (Goto t x y)) → Live d (gone t x y a) t
  gone_live s t x y a live good e =
      let child = sibling_child d s t e.1 in
      let no_root = sibling_no_root d s t e.1 in
      let above = path_above d a.targets s no_root (parent_lower s live.state no_root) live.on in
      record { state = child.state; on = path_named d (rooted d keeps) t x y a.targets (parent d s) child good.targets_length (rw child.parent_is above.0) }

  after_good : (s : ℕ) (a : Areas) → s < length d.states → Good d a → (o : Outcome) → EndedBy s a o → (fell : Cycle) → Good d fell.after → Good d (after_body d o s a fell).after
  unfolding after_body
  after_good s a l good Continued e fell k = good
  after_good s a l good (Transferred Fall) e fell k = k
  after_good s a l good (Transferred (Goto t x y)) e fell k = gone_good s t x y a l good e

  -- what the body leaves ends as the body did
  pub ended_left : (s : ℕ) (a : Areas) → Good d a → Live d a s → EndedBy s (left_by d s a) (ran d s a).outcome
  ended_left s a good live = ended s a good live

  pub left_live : (s q : ℕ) (a : Areas) → Live d a q → Live d (left_by d s a) q
  left_live s q a live = record { state = live.state; on = live.on }

  pub run_good : (f s : ℕ) (a : Areas) → Live d a s → Good d a → Good d (run_from d f s a).after
  unfolding run_from
  run_good zero s a live good = good
  run_good (suc f) s a live good =
      after_good
      s
      (left_by d s a)
      live.state
      (left_good s a good)
      (ran d s a).outcome
      (ended_left s a good live)
      (run_from d f (target a s) (left_by d s a))
      (run_good f (target a s) (left_by d s a) (left_live s (target a s) a (target_live a good s live)) (left_good s a good))

  -- a cycle leaves good areas good
  pub root_live : (a : Areas) → 0 < length d.states → Live d a 0
  root_live a l = record { state = l; on = path_root d a.targets }

  -- ---- where the path goes on
  unchanged : (a : Areas) (s : ℕ) → Above d a s s a
  unchanged a s = record { below = λ q l. refl; points = λ no_root h. h; kept = λ v l. refl }

  above_goto : (s t x y : ℕ) (a : Areas) → s < length d.states → Good d a → EndedBy s a (Transferred (Goto t x y)) → Above d a s t (gone t x y a)
  above_goto s t x y a l good e =
      let child = sibling_child d s t e.1 in
      let below = parent_lower s l (sibling_no_root d s t e.1) in
      let below' = parent_lower t child.state child.no_root in
      let same : parent d t ≡ parent d s = child.parent_is in
      let size = good.targets_length in
      record {
        below = λ q k. gone_below d t a.targets q (omega arith) below' (omega arith);
        points = λ no_root h. rw (← same) (gone_parent d t a.targets (omega arith));
        kept = λ v k. bound_other d (rooted d keeps) t x y a.bindings v (λ e. omega arith) (λ e. omega arith);
      }

  above_fall : (s : ℕ) (a : Areas) → s < length d.states → Good d a → holds_fall (body_of d s) ≡ true → (goes_on : ℕ) (left : Areas) → Above d a (target a s) goes_on left → Above d a s s left
  above_fall s a l good h goes_on left k =
      let child = target_child a good s l h in
      record {
        below = λ q m. k.below q (rw child.parent_is (lower q m));
        points = λ no_root p. k.below (parent d s) (rw child.parent_is (parent_lower s l no_root)) ∙ p;
        kept = λ v m. k.kept v (rw child.parent_is (let up = at_most in omega arith));
      }
    where
      at_most : parent d s ≤ s
      at_most = go (ℕ_discrete s 0)
        where
          go : Dec (s ≡ 0) → parent d s ≤ s
          go (yes e) = let none : parent d s ≡ 0 = (keeps.structure.states s l).root_parent e in omega arith
          go (no no_root) = let b = parent_lower s l no_root in omega arith

      lower : (q : ℕ) → q < parent d s → q < s
      lower q m = let up = at_most in omega arith

  after_above : (s : ℕ) (a : Areas) → s < length d.states → Good d a → (o : Outcome) → EndedBy s a o → (fell : Cycle) (goes_on : ℕ) → Above d a (target a s) goes_on fell.after → Above d a s (entry_of o s) (after_body d o s a fell).after
  unfolding after_body
  after_above s a l good Continued e fell goes_on k = unchanged a s
  after_above s a l good (Transferred Fall) e fell goes_on k = above_fall s a l good (sym (body_holds a.bindings s) ∙ e.1) goes_on fell.after k
  after_above s a l good (Transferred (Goto t x y)) e fell goes_on k = above_goto s t x y a l good e

  -- a body changes no target and no binding
  above_left : (s q goes_on : ℕ) (a left : Areas) → Above d (left_by d s a) q goes_on left → Above d a q goes_on left
  above_left s q goes_on a left k = record { below = k.below; points = k.points; kept = k.kept }

  pub run_above : (f s : ℕ) (a : Areas) → Live d a s → Good d a → Above d a s (entry d f s a) (after d f s a)
  unfolding run_from
  run_above zero s a live good = unchanged a s
  run_above (suc f) s a live good =
      above_left
      s
      s
      (entry_of (ran d s a).outcome s)
      a
      _
      (after_above
      s
      (left_by d s a)
      live.state
      (left_good s a good)
      (ran d s a).outcome
      (ended_left s a good live)
      (run_from d f (target a s) (left_by d s a))
      (entry d f (target a s) (left_by d s a))
      (run_above f (target a s) (left_by d s a) (left_live s (target a s) a (target_live a good s live)) (left_good s a good)))

  -- after a fall, s points to where the path from its target goes on, and what is in its scope stays bound as it was
  pub fall_points : (f s : ℕ) (a : Areas) → Live d a s → Good d a → holds_fall (body_of d s) ≡ true → get_or (after d f (target a s) (left_by d s a)).targets s 0 ≡ entry d f (target a s) (left_by d s a)
  fall_points f s a live good h =
      let child = target_child a good s live.state h in
      let above = run_above f (target a s) (left_by d s a) (left_live s (target a s) a (target_live a good s live)) (left_good s a good) in
      let there : get_or (after d f (target a s) (left_by d s a)).targets (parent d (target a s)) 0 ≡ entry d f (target a s) (left_by d s a) = above.points child.no_root (rw child.parent_is refl) in
      rw child.parent_is at there

  pub fall_keeps : (f s : ℕ) (a : Areas) → Live d a s → Good d a → holds_fall (body_of d s) ≡ true → (v : ℕ) → v < binding_length * suc s → get_or (after d f (target a s) (left_by d s a)).bindings v 0 ≡ get_or a.bindings v 0
  fall_keeps f s a live good h v l =
      let child = target_child a good s live.state h in
      let above = run_above f (target a s) (left_by d s a) (left_live s (target a s) a (target_live a good s live)) (left_good s a good) in
      above.kept v (rw child.parent_is l)

-- a run shows its states with the bindings that it found
module _ (d : Design) where
  after_ran : (o : Outcome) (s : ℕ) (a : Areas) (fell : Cycle) → fell.ran_with ≡ a.bindings → (after_body d o s a fell).ran_with ≡ a.bindings
  unfolding after_body
  after_ran Continued s a fell e = refl
  after_ran (Transferred Fall) s a fell e = e
  after_ran (Transferred (Goto t x y)) s a fell e = refl

  pub run_ran : (f s : ℕ) (a : Areas) → (run_from d f s a).ran_with ≡ a.bindings
  unfolding run_from
  run_ran zero s a = refl
  run_ran (suc f) s a = after_ran (ran d s a).outcome s (left_by d s a) (run_from d f (target a s) (left_by d s a)) (run_ran f (target a s) (left_by d s a))
