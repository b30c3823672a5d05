-- Reset, and a goto to a state that stays, give the same areas under new numbers: the default child of a state that holds a fall stays and is the lowest child as before, and what is
-- below the named state is what was, since the parents of what stays stay.
use Prim.Native.Nat.{ℕ, zero, suc, ◌+◌, ◌*◌, ◌<◌}
use mathlib.Core.Path.{◌≡◌, refl, sym, ◌∙◌, ap, ap₂}
use mathlib.Core.Logic.{◌≢◌}
use mathlib.Core.Bool.{Bool, true, false, ◌&&◌, ◌||◌, not, cond}
use mathlib.Core.List.{List, ◌∷◌, [], map}
use native.Mathlib.Omega.{arith}
use native.Mathlib.Decide.{ℕ_discrete}
use lib.Dec.{ltb, eqb}
use lib.ListN.{length, get_or, set, length-set}
use lib.Seq.{get_or-set_same, get_or-set_other}
use borrow.Author.Tests.{eqb-true, eq-eqb, ne_eqb}
use Rattle.model.specs.declared.Ending.TheVariants.{Goto}
use Rattle.model.specs.declared.Outcome.{Outcome}
use Rattle.model.specs.declared.Outcome.TheVariants.{Transferred}
use Rattle.model.specs.Limits.{binding_length}
use Rattle.model.specs.Image.{Design, Register, state_at}
use Rattle.model.specs.States.{parent, default_target, within}
use Rattle.model.specs.Trees.{body_of}
use Rattle.model.specs.Bindings.{body_with, label_with, bound_by}
use Rattle.model.specs.Rules.{HoldsFall, DefaultChild, DesignKeeps}
use Rattle.model.specs.Machine.{Areas, reset_areas, gone_to}
use Rattle.model.proofs.Laws.Equivalences.{same_tests}
use Rattle.model.proofs.Laws.Indices.{get_d_tabulate, only_below, only_below_at}
use Rattle.model.proofs.Laws.States.{is_child_lem, default_child, default_least, default_is}
use Rattle.model.proofs.Laws.Gotos.{within_step, gone_parent, gone_other}
use Rattle.model.proofs.Laws.Bindings.{bound_other}
use Rattle.model.proofs.Laws.Cycles.{reset_length}
use Rattle.model.proofs.Exact.Falls.{holds_iff}
use Rattle.model.proofs.Independence.Endings.{Ended}
use Rattle.model.proofs.Independence.Widths.{reset_fitting}
use Rattle.model.proofs.Independence.Instances.{AcceptedDesign, rooted}
use Rattle.model.proofs.Independence.Path.{target, fall_child, gone, gone_good}
use Rattle.model.proofs.Independence.Runs.{reset_good}
use Rattle.renumbering.specs.Renumbers.{Renumbers}
use Rattle.renumbering.proofs.States.{parent_renumbered, same_count, states_apart, root_is, root_goes_lem, default_renumbered}
use Rattle.renumbering.proofs.Running.Areas.{Same}

-- the rules of an accepted design
abbrev pub rules_of : {d : Design} → AcceptedDesign d → DesignKeeps d
rules_of keeps = record { structure = keeps.structure; flowing = keeps.flowing }

-- how the body of s ended, by the bindings that it ran with
abbrev pub EndedBy : Design → ℕ → Areas → Outcome → Type 0
EndedBy d s a o = Ended d a.bindings s (label_with d a.bindings s ∷ []) (body_with d a.bindings s) o

-- ---- the bytes of the state that a goto names
module _ (d : Design) (t x y : ℕ) (bindings : List ℕ) (size : binding_length * t + 1 < length bindings) where
  first_byte : get_or (bound_by d t x y bindings) (binding_length * t) 0 ≡ cond (ltb 0 (state_at d t).parameters) x (get_or bindings (binding_length * t) 0)
  unfolding bound_by
  first_byte = go (ltb 0 (state_at d t).parameters) (ltb 1 (state_at d t).parameters)
    where
      put : get_or (set bindings (binding_length * t) x) (binding_length * t) 0 ≡ x
      put = get_or-set_same bindings (binding_length * t) x 0 (omega arith)

      behind : (l : List ℕ) → get_or (set l (binding_length * t + 1) y) (binding_length * t) 0 ≡ get_or l (binding_length * t) 0
      behind l = get_or-set_other l (binding_length * t + 1) (binding_length * t) y 0 (λ e. omega arith)

      go : (b c : Bool)
          → get_or (cond c (set (cond b (set bindings (binding_length * t) x) bindings) (binding_length * t + 1) y) (cond b (set bindings (binding_length * t) x) bindings)) (binding_length * t) 0
          ≡ cond b x (get_or bindings (binding_length * t) 0)
      go true true = behind (set bindings (binding_length * t) x) ∙ put
      go true false = put
      go false true = behind bindings
      go false false = refl

  second_byte : get_or (bound_by d t x y bindings) (binding_length * t + 1) 0 ≡ cond (ltb 1 (state_at d t).parameters) y (get_or bindings (binding_length * t + 1) 0)
  unfolding bound_by
  second_byte = go (ltb 0 (state_at d t).parameters) (ltb 1 (state_at d t).parameters)
    where
      before : get_or (set bindings (binding_length * t) x) (binding_length * t + 1) 0 ≡ get_or bindings (binding_length * t + 1) 0
      before = get_or-set_other bindings (binding_length * t) (binding_length * t + 1) x 0 (λ e. omega arith)

      go : (b c : Bool)
          → get_or (cond c (set (cond b (set bindings (binding_length * t) x) bindings) (binding_length * t + 1) y) (cond b (set bindings (binding_length * t) x) bindings)) (binding_length * t + 1) 0
          ≡ cond c y (get_or bindings (binding_length * t + 1) 0)
      go true true = get_or-set_same (set bindings (binding_length * t) x) (binding_length * t + 1) y 0 (rw (length-set bindings (binding_length * t) x) size)
      go true false = before
      go false true = get_or-set_same bindings (binding_length * t + 1) y 0 size
      go false false = refl

module _ {d d' : Design} {state command expression : ℕ → ℕ} {S C E : ℕ → Type 0} (keeps : AcceptedDesign d) (keeps' : AcceptedDesign d') (new : Renumbers d d' state command expression S C E) where
  -- ---- default children
  -- that of a state that stays and holds a fall
  default_same : (s : ℕ) → S s → HoldsFall (body_of d s) → S (default_target d s) × (default_target d' (state s) ≡ state (default_target d s))
  default_same s stays holds =
      let some = fall_child d s (body_of d s) (keeps.structure.shaped s (new.states_old s stays)) (holds_iff.1 holds) in
      let lowest : DefaultChild d s (default_target d s) = record { child = is_child_lem d s (default_target d s) (default_child d s some); lowest = λ r child. default_least d s r child } in
      let renumbered = default_renumbered (rules_of keeps) new s (default_target d s) stays holds lowest in
      (new.default_stays s (default_target d s) stays holds lowest, default_is d' (state s) (state (default_target d s)) renumbered.child renumbered.lowest)

  -- ---- reset
  pub reset_same : Same d d' state S (reset_areas d) (reset_areas d')
  unfolding reset_areas
  reset_same =
      record {
        registers = ap (map (λ (r : Register). r.reset)) new.registers;
        targets = λ s stays holds.
            let (kept, is) = default_same s stays holds in
            let old : target (reset_areas d) s ≡ default_target d s = get_d_tabulate (default_target d) (length d.states) s 0 (new.states_old s stays) in
            let renumbered : target (reset_areas d') (state s) ≡ default_target d' (state s) = get_d_tabulate (default_target d') (length d'.states) (state s) 0 (new.states_new s stays) in
            (rw old kept, renumbered ∙ is ∙ ap state (sym old));
        bindings = λ s j stays l.
            let old = new.states_old s stays in
            let there = new.states_new s stays in
            get_d_tabulate (λ v. 0) (binding_length * length d'.states) (binding_length * state s + j) 0 (omega arith)
            ∙ sym (get_d_tabulate (λ v. 0) (binding_length * length d.states) (binding_length * s + j) 0 (omega arith));
        good = reset_good d keeps (reset_areas d).registers (reset_length d) (reset_fitting d keeps.structure);
        good' = reset_good d' keeps' (reset_areas d').registers (reset_length d') (reset_fitting d' keeps'.structure);
      }

  -- ---- what is below a state
  same_equal : (s q : ℕ) → S s → S q → eqb (state q) (state s) ≡ eqb q s
  same_equal s q above below = same_tests (
    λ h. eq-eqb q s (states_apart (rules_of keeps) new q s below above (eqb-true (state q) (state s) h)),
    λ h. eq-eqb (state q) (state s) (ap state (eqb-true q s h)),
  )

  within_upto : (f s q : ℕ) → q < f → S s → S q → within d' (state s) (state q) ≡ within d s q
  within_upto zero s q l above below = absurd (omega arith)
  within_upto (suc f) s q l above below = go (ℕ_discrete q 0) (λ (p : ℕ) (m : p < q) (stays : S p). within_upto f s p (omega arith) above stays)
    where
      go : Dec (q ≡ 0) → ((p : ℕ) → p < q → S p → within d' (state s) (state p) ≡ within d s p) → within d' (state s) (state q) ≡ within d s q
      go (yes e) earlier =
          let root : state q ≡ 0 = root_goes_lem (rules_of keeps) new q e in
          within_step d' (state s) (state q)
          ∙ ap₂ (λ (x y : Bool). x || (not y && only_below false (state q) (within d' (state s)) (parent d' (state q)))) (same_equal s q above below) (eq-eqb (state q) 0 root)
          ∙ sym (ap (λ (y : Bool). eqb q s || (not y && only_below false q (within d s) (parent d q))) (eq-eqb q 0 e))
          ∙ sym (within_step d s q)
      go (no no_root) earlier =
          let lower : parent d q < q = (keeps.structure.states q (new.states_old q below)).parent_below no_root in
          let stays = new.parent_stays q below in
          let is = parent_renumbered (rules_of keeps) new q below in
          let up = new.states_order (parent d q) q stays below lower in
          let no-root' : state q ≢ 0 = λ e. no_root (root_is (rules_of keeps) new q below e) in
          let over : only_below false (state q) (within d' (state s)) (parent d' (state q)) ≡ only_below false q (within d s) (parent d q) =
          ap (only_below false (state q) (within d' (state s))) is ∙ only_below_at false (state q) (state (parent d q)) (within d' (state s)) up ∙ earlier (parent d q) lower stays ∙ sym (only_below_at false q (parent d q) (within d s) lower) in
          within_step d' (state s) (state q)
          ∙ ap₂ (λ (x y : Bool). x || (not (eqb (state q) 0) && y)) (same_equal s q above below) over
          ∙ ap (λ (y : Bool). eqb q s || (not y && only_below false q (within d s) (parent d q))) (ne_eqb (state q) 0 no-root' ∙ sym (ne_eqb q 0 no_root))
          ∙ sym (within_step d s q)

  pub within_renumbered : (s q : ℕ) → S s → S q → within d' (state s) (state q) ≡ within d s q
  within_renumbered s q above below = within_upto (suc q) s q (omega arith) above below

  -- ---- a goto to t, which stays
  module _ (t x y : ℕ) (a a' : Areas) (named : S t) (same : Same d d' state S a a') where
    gone_targets : (q : ℕ) → S q → HoldsFall (body_of d q)
        → S (get_or (gone_to d t a.targets) q 0) × (get_or (gone_to d' (state t) a'.targets) (state q) 0 ≡ state (get_or (gone_to d t a.targets) q 0))
    gone_targets q stays holds =
        let size = same.good.targets_length in
        let size' = same.good'.targets_length in
        let old = new.states_old q stays in
        let there = new.states_new q stays in
        go (omega arith) (omega arith) (ℕ_discrete q (parent d t))
      where
        points : parent d' (state t) ≡ state (parent d t)
        points = parent_renumbered (rules_of keeps) new t named

        either : (b : Bool) → S (cond b (default_target d q) (target a q)) × (cond b (default_target d' (state q)) (target a' (state q)) ≡ state (cond b (default_target d q) (target a q)))
        either true = default_same q stays holds
        either false = same.targets q stays holds

        go : q < length a.targets
            → state q < length a'.targets
            → Dec (q ≡ parent d t)
            → S (get_or (gone_to d t a.targets) q 0) × (get_or (gone_to d' (state t) a'.targets) (state q) 0 ≡ state (get_or (gone_to d t a.targets) q 0))
        go l l' (yes e) =
            let is : state q ≡ parent d' (state t) = ap state e ∙ sym points in
            let old : get_or (gone_to d t a.targets) q 0 ≡ t = rw e (gone_parent d t a.targets (rw (← e) l)) in
            let renumbered : get_or (gone_to d' (state t) a'.targets) (state q) 0 ≡ state t = rw is (gone_parent d' (state t) a'.targets (rw (← is) l')) in
            (rw old named, renumbered ∙ ap state (sym old))
        go l l' (no other) =
            let other' : state q ≢ parent d' (state t) = λ e. other (states_apart (rules_of keeps) new q (parent d t) stays (new.parent_stays t named) (e ∙ points)) in
            let old = gone_other d t a.targets q l other in
            let renumbered = gone_other d' (state t) a'.targets (state q) l' other' in
            let (kept, is) = either (within d t q) in
            (rw old kept, renumbered ∙ ap (λ (b : Bool). cond b (default_target d' (state q)) (target a' (state q))) (within_renumbered t q named stays) ∙ is ∙ ap state (sym old))

    gone_bytes : (j : ℕ) → j < binding_length → get_or (bound_by d' (state t) x y a'.bindings) (binding_length * state t + j) 0 ≡ get_or (bound_by d t x y a.bindings) (binding_length * t + j) 0
    gone_bytes j l =
        let size = same.good.bindings_length in
        let size' = same.good'.bindings_length in
        let old = new.states_old t named in
        let there = new.states_new t named in
        go j l (omega arith) (omega arith)
      where
        go : (j : ℕ)
            → j < binding_length
            → binding_length * t + 1 < length a.bindings
            → binding_length * state t + 1 < length a'.bindings
            → get_or (bound_by d' (state t) x y a'.bindings) (binding_length * state t + j) 0 ≡ get_or (bound_by d t x y a.bindings) (binding_length * t + j) 0
        go zero m size size' =
            let none : binding_length * t + 0 ≡ binding_length * t = omega arith in
            let none' : binding_length * state t + 0 ≡ binding_length * state t = omega arith in
            let byte : get_or a'.bindings (binding_length * state t) 0 ≡ get_or a.bindings (binding_length * t) 0 = rw (none, none') at (same.bindings t 0 named m) in
            rw
            (none, none')
            (first_byte d' (state t) x y a'.bindings size'
            ∙ ap₂ (λ (n v : ℕ). cond (ltb 0 n) x v) (same_count (rules_of keeps) new t named) byte
            ∙ sym (first_byte d t x y a.bindings size))
        go (suc zero) m size size' =
            second_byte d' (state t) x y a'.bindings size'
            ∙ ap₂ (λ (n v : ℕ). cond (ltb 1 n) y v) (same_count (rules_of keeps) new t named) (same.bindings t 1 named m)
            ∙ sym (second_byte d t x y a.bindings size)
        go (suc (suc j)) m size size' = absurd (omega arith)

    gone_bindings : (q j : ℕ) → S q → j < binding_length
        → get_or (bound_by d' (state t) x y a'.bindings) (binding_length * state q + j) 0 ≡ get_or (bound_by d t x y a.bindings) (binding_length * q + j) 0
    gone_bindings q j stays l = go (ℕ_discrete q t)
      where
        go : Dec (q ≡ t) → get_or (bound_by d' (state t) x y a'.bindings) (binding_length * state q + j) 0 ≡ get_or (bound_by d t x y a.bindings) (binding_length * q + j) 0
        go (yes e) = rw e (gone_bytes j l)
        go (no other) =
            let apart : state q ≢ state t = λ e. other (states_apart (rules_of keeps) new q t stays named e) in
            bound_other d' (rooted d' keeps') (state t) x y a'.bindings (binding_length * state q + j) (λ e. apart (omega arith)) (λ e. apart (omega arith))
            ∙ same.bindings q j stays l
            ∙ sym (bound_other d (rooted d keeps) t x y a.bindings (binding_length * q + j) (λ e. other (omega arith)) (λ e. other (omega arith)))

  pub gone_same : (s t x y : ℕ) (a a' : Areas) → S s → S t → Same d d' state S a a'
      → EndedBy d s a (Transferred (Goto t x y))
      → EndedBy d' (state s) a' (Transferred (Goto (state t) x y))
      → Same d d' state S (gone d keeps t x y a) (gone d' keeps' (state t) x y a')
  gone_same s t x y a a' stays named same e e' =
      record {
        registers = same.registers;
        targets = gone_targets t x y a a' named same;
        bindings = gone_bindings t x y a a' named same;
        good = gone_good d keeps s t x y a (new.states_old s stays) same.good e;
        good' = gone_good d' keeps' (state s) (state t) x y a' (new.states_new s stays) same.good' e';
      }
