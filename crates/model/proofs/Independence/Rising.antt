-- Why labels keep rising along the live path: a goto leads to a label at or above its own state's and leaves default children below, and the label of
-- the default child of a state that holds a fall is at or above that state's (refusal 9; other children may have any label), for each choice, and it has no parameters of its own (refusal 19), so also for the labels that are bound. So a run that has come to a state that is not seen shows nothing more and changes nothing that is seen.
use Prim.Native.Nat.{ℕ, zero, suc, ◌<◌}
use mathlib.Core.Path.{◌≡◌, refl, sym, ◌∙◌}
use mathlib.Core.Bool.{true, false}
use mathlib.Core.List.{List, [], ◌∷◌, map}
use native.Mathlib.Omega.{arith}
use lib.ListN.{length, get_or}
use Rattle.model.specs.declared.Ending.TheVariants.{Goto, Fall}
use Rattle.model.specs.declared.Outcome.{Outcome}
use Rattle.model.specs.declared.Outcome.TheVariants.{Continued, Transferred}
use Rattle.model.specs.Image.{Design}
use Rattle.model.specs.Lattice.{flows_to, all_flow_to, register_label}
use Rattle.model.specs.States.{default_target, within}
use Rattle.model.specs.Trees.{body_of}
use Rattle.model.specs.Falls.{holds_fall}
use Rattle.model.specs.Parameters.{all_of, scope_of}
use Rattle.model.specs.Bindings.{bound_in, body_with, label_with, bound_by, bound_sound}
use Rattle.model.specs.Rules.{FlowsTo, DefaultChild}
use Rattle.model.specs.Machine.{Areas, Cycle, gone_to, after_body, run_from}
use Rattle.model.specs.Parties.{state_seen, wider_walk_seen}
use Rattle.model.proofs.Laws.Booleans.{and_first, and_false}
use Rattle.model.proofs.Laws.States.{ChildOf, is_child_lem, default_child, default_least, sibling_child}
use Rattle.model.proofs.Exact.Falls.{holds_iff}
use Rattle.model.proofs.Laws.Gotos.{within_self, within_child, gone_within}
use Rattle.model.proofs.Independence.Relation.{Good}
use Rattle.model.proofs.Independence.Labels.{unseen_above}
use Rattle.model.proofs.Independence.Agreement.{Agree, agree_self, agree_trans}
use Rattle.model.proofs.Independence.Commands.{exec_confined}
use Rattle.model.proofs.Independence.Endings.{Ended}
use Rattle.model.proofs.Independence.Instances.{AcceptedDesign, is_choice, bound_same, label_same, scope_same}
use Rattle.model.proofs.Independence.Path.{fall_child, entry_of, ran, left_by, entry, after, Live, target, gone, left_good, left_live, live_sound, live_label, body_holds, body_flows, ended, target_live, gone_good, gone_live, parent_lower, fall_points, fall_keeps}

-- labels, as they are bound, rise along the live path from s
abbrev pub Rising : Design → ℕ → ℕ → List ℕ → List ℕ → Type 0
Rising d zero s bindings targets = Unit {0}
Rising d (suc f) s bindings targets =
    holds_fall (body_of d s) ≡ true
    → FlowsTo d.rows (label_with d bindings s) (label_with d bindings (get_or targets s 0)) × Rising d f (get_or targets s 0) bindings targets

module _ (d : Design) where
  -- a table that is at its defaults on states closed under children
  pub record Defaults (P : ℕ → Type 0) (targets : List ℕ) : Type 1 where
    pub default : (q : ℕ) → P q → q < length d.states → get_or targets q 0 ≡ default_target d q
    pub closed : (q c : ℕ) → P q → ChildOf d q c → P c

  -- the label of where the path goes on is at or above that of s, and labels rise from there
  pub record Risen (f s goes_on : ℕ) (bindings : List ℕ) (left : Areas) : Type 0 where
    pub label : label_with d left.bindings goes_on < length d.rows
    pub up : FlowsTo d.rows (label_with d bindings s) (label_with d left.bindings goes_on)
    pub on : Rising d f goes_on left.bindings left.targets

  -- a run that shows nothing to the level and changes nothing that it sees
  pub record Hidden (level : ℕ) (a : Areas) (c : Cycle) : Type 0 where
    pub registers : Agree d level a.registers c.after.registers
    pub walk : wider_walk_seen d level a.bindings c.walk ≡ []

module _ (d : Design) (keeps : AcceptedDesign d) where
  -- the default child of a state that holds a fall
  pub default_of_fall : (q : ℕ) → q < length d.states → holds_fall (body_of d q) ≡ true → ChildOf d q (default_target d q)
  default_of_fall q l h = default_child d q (fall_child d q (body_of d q) (keeps.structure.shaped q l) h)

  -- a default child has its parent's scope
  pub default_scope : (q : ℕ) → ChildOf d q (default_target d q) → scope_of d (default_target d q) ≡ scope_of d q
  default_scope q child =
      let is : DefaultChild d q (default_target d q) = record { child = is_child_lem d q (default_target d q) child; lowest = default_least d q } in
      scope_same d keeps q (default_target d q) child.state child.no_root child.parent_is ((keeps.structure.parameters (default_target d q) child.state).default_none q is)

  module _ (bindings : List ℕ) where
    pub default_bound : (q : ℕ) → ChildOf d q (default_target d q) → bound_in d bindings (default_target d q) ≡ bound_in d bindings q
    unfolding bound_in
    default_bound q child = rw (default_scope q child) refl

    default_up : (q : ℕ) → q < length d.states → all_of (bound_sound d bindings) (scope_of d q) ≡ true → holds_fall (body_of d q) ≡ true → FlowsTo d.rows (label_with d bindings q) (label_with d bindings (default_target d q))
    unfolding label_with
    default_up q l sound h =
        let child = default_of_fall q l h in
        let is : DefaultChild d q (default_target d q) = record { child = is_child_lem d q (default_target d q) child; lowest = default_least d q } in
        let choice = is_choice d keeps bindings (default_target d q) child.state (rw (default_scope q child) sound) in
        let rises = keeps.structure.child_labels (default_target d q) child.state q (holds_iff.0 h) is (map (register_label d) (bound_in d bindings (default_target d q))) choice in
        rw (← default_bound q child) rises

    pub default_rises : (P : ℕ → Type 0) (targets : List ℕ) → Defaults d P targets → (f q : ℕ) → P q → q < length d.states → all_of (bound_sound d bindings) (scope_of d q) ≡ true → Rising d f q bindings targets
    default_rises P targets table zero q p l sound = tt
    default_rises P targets table (suc f) q p l sound = λ h.
        let child = default_of_fall q l h in
        rw (table.default q p l) (default_up q l sound h, default_rises P targets table f (default_target d q) (table.closed q (default_target d q) p child) child.state (rw (default_scope q child) sound))

  abbrev EndedBy : ℕ → Areas → Outcome → Type 0
  EndedBy s a o = Ended d a.bindings s (label_with d a.bindings s ∷ []) (body_with d a.bindings s) o

  -- after a goto the named state and its descendants are at their defaults
  pub gone_defaults : (s t x y : ℕ) (a : Areas) → s < length d.states → Good d a → EndedBy s a (Transferred (Goto t x y)) → Defaults d (λ q. within d t q ≡ true) (gone_to d t a.targets)
  gone_defaults s t x y a l good e =
      let child = sibling_child d s t e.1 in
      let size = good.targets_length in
      record {
        default = λ q h k. gone_within d t a.targets q (omega arith) (parent_lower d keeps t child.state child.no_root) h;
        closed = λ q c h k. within_child d t q c k (rw k.parent_is at (parent_lower d keeps c k.state k.no_root)) h;
      }

  module _ (level : ℕ) (is_label : level < length d.rows) where
    reflexive : (x : ℕ) → x < length d.rows → FlowsTo d.rows x x
    reflexive x l = keeps.structure.lattice.reflexive x l

    transitive : (x y z : ℕ) → x < length d.rows → y < length d.rows → z < length d.rows → FlowsTo d.rows x y → FlowsTo d.rows y z → FlowsTo d.rows x z
    transitive x y z lx ly lz h k = keeps.structure.lattice.transitive x y z lx ly lz h k

    after_risen : (f s : ℕ) (a : Areas) → Live d a s → Good d a → Rising d (suc f) s a.bindings a.targets → (o : Outcome) → EndedBy s a o → (fell : Cycle) (goes_on : ℕ)
        → (holds_fall (body_of d s) ≡ true → get_or fell.after.targets s 0 ≡ goes_on)
        → (holds_fall (body_of d s) ≡ true → label_with d fell.after.bindings s ≡ label_with d a.bindings s)
        → (holds_fall (body_of d s) ≡ true → Risen d f (target a s) goes_on a.bindings fell.after)
        → Risen d (suc f) s (entry_of o s) a.bindings (after_body d o s a fell).after
    unfolding after_body all_flow_to
    after_risen f s a live good rising Continued e fell goes_on points stays risen =
        let own = live_label d keeps a good s live in
        record { label = own; up = reflexive (label_with d a.bindings s) own; on = rising }
    after_risen f s a live good rising (Transferred Fall) e fell goes_on points stays risen =
        let holds : holds_fall (body_of d s) ≡ true = sym (body_holds d keeps a.bindings s) ∙ e.1 in
        let further = risen holds in
        let own = live_label d keeps a good s live in
        let next = live_label d keeps a good (target a s) (target_live d keeps a good s live) in
        record {
          label = rw (stays holds) own;
          up = rw (stays holds) (reflexive (label_with d a.bindings s) own);
          on = λ h. rw (points holds, stays holds) (transitive (label_with d a.bindings s) (label_with d a.bindings (target a s)) (label_with d fell.after.bindings goes_on) own next further.label (rising h).0 further.up, further.on);
        }
    after_risen f s a live good rising (Transferred (Goto t x y)) e fell goes_on points stays risen =
        let after-goto = gone_good d keeps s t x y a live.state good e in
        let there = gone_live d keeps s t x y a live good e in
        record {
          label = e.2.label;
          up = and_first (flows_to d.rows (label_with d a.bindings s) (label_with d (bound_by d t x y a.bindings) t)) true e.2.flows;
          on = default_rises (bound_by d t x y a.bindings) (λ q. within d t q ≡ true) (gone_to d t a.targets) (gone_defaults s t x y a live.state good e) (suc f) t (within_self d t) there.state (live_sound d keeps (gone d keeps t x y a) after-goto t there);
        }

    run_risen : (f s : ℕ) (a : Areas) → Live d a s → Good d a → Rising d f s a.bindings a.targets → Risen d f s (entry d f s a) a.bindings (after d f s a)
    unfolding run_from
    run_risen zero s a live good rising =
        let own = live_label d keeps a good s live in
        record { label = own; up = reflexive (label_with d a.bindings s) own; on = tt }
    run_risen (suc f) s a live good rising =
        after_risen
        f
        s
        (left_by d s a)
        (left_live d keeps s s a live)
        (left_good d keeps s a good)
        rising
        (ran d s a).outcome
        (ended d keeps s a good live)
        (run_from d f (target a s) (left_by d s a))
        (entry d f (target a s) (left_by d s a))
        (fall_points d keeps f s a live good)
        (λ h. label_same d keeps s (after d f (target a s) (left_by d s a)).bindings a.bindings (bound_same d keeps s live.state (after d f (target a s) (left_by d s a)).bindings a.bindings (fall_keeps d keeps f s a live good h)))
        (λ h. run_risen f (target a s) (left_by d s a) (left_live d keeps s (target a s) a (target_live d keeps a good s live)) (left_good d keeps s a good) (rising h).1)

    -- labels rise along the path on which a cycle leaves the areas
    pub run_rises : (f s : ℕ) (a : Areas) → Live d a s → Good d a → Rising d f s a.bindings a.targets → Rising d f (entry d f s a) (after d f s a).bindings (after d f s a).targets
    run_rises f s a live good rising = (run_risen f s a live good rising).on

    -- ---- a run from a state that is not seen
    -- the path goes on from a state that is not seen too
    pub entry_hidden : (f s : ℕ) (a : Areas) → Live d a s → Good d a → Rising d f s a.bindings a.targets → state_seen d level a.bindings s ≡ false → state_seen d level (after d f s a).bindings (entry d f s a) ≡ false
    entry_hidden f s a live good rising unseen =
        let risen = run_risen f s a live good rising in
        unseen_above d level keeps is_label (label_with d a.bindings s) (label_with d (after d f s a).bindings (entry d f s a)) (live_label d keeps a good s live) risen.label risen.up unseen

    after_hidden : (s : ℕ) (v : List ℕ) (a : Areas) → state_seen d level a.bindings s ≡ false → Agree d level v a.registers → (o : Outcome) (fell : Cycle) → (o ≡ Transferred Fall → Hidden d level a fell) → Agree d level v (after_body d o s a fell).after.registers × (wider_walk_seen d level a.bindings (after_body d o s a fell).walk ≡ [])
    unfolding after_body wider_walk_seen
    after_hidden s v a unseen agree Continued fell k = (agree, rw unseen refl)
    after_hidden s v a unseen agree (Transferred Fall) fell k = (agree_trans d level agree (k refl).registers, rw unseen (k refl).walk)
    after_hidden s v a unseen agree (Transferred (Goto t x y)) fell k = (agree, rw unseen refl)

    body_hidden : (s : ℕ) (a : Areas) → Live d a s → Good d a → state_seen d level a.bindings s ≡ false → Agree d level a.registers (ran d s a).registers
    unfolding all_flow_to
    body_hidden s a live good unseen =
        exec_confined d level keeps is_label a.bindings s (label_with d a.bindings s ∷ []) a.registers (body_with d a.bindings s) (body_flows d keeps a good s live) (live_label d keeps a good s live, tt) (and_false (state_seen d level a.bindings s) true unseen)

    pub run_hidden : (f s : ℕ) (a : Areas) → Live d a s → Good d a → Rising d f s a.bindings a.targets → state_seen d level a.bindings s ≡ false → Hidden d level a (run_from d f s a)
    unfolding run_from wider_walk_seen
    run_hidden zero s a live good rising unseen = record { registers = agree_self d level a.registers; walk = refl }
    run_hidden (suc f) s a live good rising unseen =
        let holds : (ran d s a).outcome ≡ Transferred Fall → holds_fall (body_of d s) ≡ true = λ e. sym (body_holds d keeps a.bindings s) ∙ (rw e at (ended d keeps s a good live)).1 in
        let next = target_live d keeps a good s live in
        let further : (ran d s a).outcome ≡ Transferred Fall → Hidden d level (left_by d s a) (run_from d f (target a s) (left_by d s a)) = λ e.
        run_hidden f (target a s) (left_by d s a) (left_live d keeps s (target a s) a next) (left_good d keeps s a good) (rising (holds e)).1
        (unseen_above d level keeps is_label (label_with d a.bindings s) (label_with d a.bindings (target a s)) (live_label d keeps a good s live) (live_label d keeps a good (target a s) next) (rising (holds e)).0 unseen) in
        let both = after_hidden s a.registers (left_by d s a) unseen (body_hidden s a live good unseen) (ran d s a).outcome (run_from d f (target a s) (left_by d s a)) further in
        record { registers = both.0; walk = both.1 }
