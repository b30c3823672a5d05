-- The step lemma, over two designs that differ at most in the bodies of states that are not seen: the common beginning of the two live paths that is seen
-- runs in lockstep, and past it everything is hidden.
use Prim.Native.Nat.{ℕ, zero, suc, ◌+◌, ◌*◌, ◌/◌, ◌%◌, ◌<◌}
use mathlib.Core.Path.{◌≡◌, refl, sym, ◌∙◌, ap, ap₂, fun_ext}
use mathlib.Core.Logic.{◌⊎◌, inl, inr, ◌≢◌}
use mathlib.Core.Bool.{Bool, true, false, ◌&&◌, ◌||◌, not, cond}
use mathlib.Core.List.{List, [], ◌∷◌, ◌++◌}
use native.Mathlib.Omega.{arith}
use lib.Dec.{eqb}
use lib.ListN.{length, get_or, take, length-map}
use lib.Seq.{take-append_seam}
use Rattle.model.specs.declared.Ending.TheVariants.{Goto, Fall}
use Rattle.model.specs.declared.Outcome.{Outcome}
use Rattle.model.specs.declared.Outcome.TheVariants.{Continued, Transferred}
use Rattle.model.specs.Indices.{recursively}
use Rattle.model.specs.Image.{Design, Register, State, state_at}
use Rattle.model.specs.Limits.{binding_length}
use Rattle.model.specs.Lattice.{flows_to, all_flow_to, state_label}
use Rattle.model.specs.Parameters.{all_of, own_parameters, scope_of, lower_bound, upper_bound, within_bounds}
use Rattle.model.specs.Bindings.{cmd_with, bound_in, own_bound, body_with, label_with, bound_by, bound_sound}
use Rattle.model.specs.States.{parent, is_child, default_target, within}
use Rattle.model.specs.Trees.{body_of}
use Rattle.model.specs.Falls.{holds_fall}
use Rattle.model.specs.Machine.{Areas, Cycle, exec, gone_to, after_body, run_from}
use Rattle.model.specs.Parties.{RanState, register_seen, state_seen, wider_walk_seen}
use Rattle.model.specs.Neighbours.{unnumbered, without_command}
use Rattle.model.proofs.Laws.Booleans.{decide, and_both}
use Rattle.model.proofs.Laws.States.{ChildOf, sibling_child, sibling_no_root}
use Rattle.model.proofs.Laws.Gotos.{within_self}
use Rattle.model.proofs.Independence.Relation.{Good}
use Rattle.model.proofs.Independence.Endings.{Ended}
use Rattle.model.proofs.Independence.Unnumbered.{exec_alike, holds_alike, alike_with}
use Rattle.model.proofs.Independence.Agreement.{Agree, agree_sym, agree_trans}
use Rattle.model.proofs.Independence.Commands.{OutcomesAgree, SameSeen, exec_same}
use Rattle.model.proofs.Laws.Bindings.{bound_other, first_bound_lem, second_bound_lem}
use Rattle.model.proofs.Laws.Spares.{body_spares}
use Rattle.model.proofs.Laws.Scopes.{own_length, own_at}
use Rattle.model.proofs.Independence.Instances.{AcceptedDesign, rooted, map_same, RunFlows, flows_with, label_with_lem, bound_same, bound_split, label_same}
use Rattle.model.proofs.Independence.Path.{entry_of, ran, left_by, target, entry, after, Live, left_good, left_live, live_sound, live_label, body_holds, body_shaped, body_flows, ended, target_live, parent_lower, fall_points, fall_keeps}
use Rattle.model.proofs.Independence.Rising.{Rising, Defaults, default_of_fall, default_bound, gone_defaults, entry_hidden, run_hidden}

-- Two designs with equal labels and registers, and equal state records apart from command numbers, whose bodies are the same commands, apart from node
-- numbers, in states that are seen under some bindings.
pub record Alike (d₁ d₂ : Design) (level : ℕ) : Type 0 where
  pub rows : d₁.rows ≡ d₂.rows
  pub registers : d₁.registers ≡ d₂.registers
  pub states : length d₁.states ≡ length d₂.states
  pub records : (s : ℕ) → without_command (state_at d₁ s) ≡ without_command (state_at d₂ s)
  pub bodies : (bindings : List ℕ) (s : ℕ) → s < length d₁.states → state_seen d₁ level bindings s ≡ true → unnumbered (body_of d₁ s) ≡ unnumbered (body_of d₂ s)

-- two lists in two parts, the first ones as long as each other
append-same : (xs xs' ys ys' : List ℕ) → length xs ≡ length xs' → xs ++ ys ≡ xs' ++ ys' → xs ≡ xs'
append-same xs xs' ys ys' size e = sym (take-append_seam xs ys) ∙ ap (λ (l : List ℕ). take (length xs) l) e ∙ rw size (take-append_seam xs' ys')

-- the beginning of the live path from s that is seen, each state with what is bound in its scope
unfoldable pub path_seen : Design → ℕ → ℕ → ℕ → List ℕ → List ℕ → List RanState
path_seen d level zero s bindings targets = []
path_seen d level (suc f) s bindings targets =
    cond
    (state_seen d level bindings s)
    (record { state = s; bound = bound_in d bindings s } ∷ cond (holds_fall (body_of d s)) (path_seen d level f (get_or targets s 0) bindings targets) [])
    []

pub path_hidden : (d : Design) (level f s : ℕ) (bindings targets : List ℕ) → state_seen d level bindings s ≡ false → path_seen d level f s bindings targets ≡ []
unfolding path_seen
path_hidden d level zero s bindings targets unseen = refl
path_hidden d level (suc f) s bindings targets unseen = rw unseen

-- the entry of a state in a path
abbrev seen_at : Design → List ℕ → ℕ → RanState
seen_at d bindings s = record { state = s; bound = bound_in d bindings s }

-- a path goes on from a state that is seen and holds a fall
path_falls : (d : Design) (level f s : ℕ) (bindings targets : List ℕ) → state_seen d level bindings s ≡ true → holds_fall (body_of d s) ≡ true → path_seen d level (suc f) s bindings targets ≡ seen_at d bindings s ∷ path_seen d level f (get_or targets s 0) bindings targets
unfolding path_seen
path_falls d level f s bindings targets seen holds = rw (seen, holds)

path_begins : (d : Design) (level f s : ℕ) (bindings targets : List ℕ) → state_seen d level bindings s ≡ true → path_seen d level (suc f) s bindings targets ≡ seen_at d bindings s ∷ cond (holds_fall (body_of d s)) (path_seen d level f (get_or targets s 0) bindings targets) []
unfolding path_seen
path_begins d level f s bindings targets seen = rw seen

nil_is_no_cons : (x : RanState) (xs : List RanState) → [] ≡ x ∷ xs → ⊥
nil_is_no_cons x xs e = let z : ◌≡◌ {A = ℕ} 0 1 = cc in omega arith

-- a path of which nothing is seen begins at a state that is not seen
path_nil : (d : Design) (level f s : ℕ) (bindings targets : List ℕ) → path_seen d level (suc f) s bindings targets ≡ [] → state_seen d level bindings s ≡ false
unfolding path_seen
path_nil d level f s bindings targets e = go (state_seen d level bindings s) refl e
  where
    go : (b : Bool) → state_seen d level bindings s ≡ b → cond b (seen_at d bindings s ∷ cond (holds_fall (body_of d s)) (path_seen d level f (get_or targets s 0) bindings targets) []) [] ≡ [] → b ≡ false
    go true h k = absurd (nil_is_no_cons _ _ (sym k))
    go false h k = refl

-- a path of which something is seen begins with it
path_first : (d : Design) (level f s : ℕ) (x : RanState) (xs : List RanState) (bindings targets : List ℕ) → x ∷ xs ≡ path_seen d level (suc f) s bindings targets → seen_at d bindings s ≡ x
unfolding path_seen
path_first d level f s x xs bindings targets e = go (state_seen d level bindings s) e
  where
    go : (b : Bool) → x ∷ xs ≡ cond b (seen_at d bindings s ∷ cond (holds_fall (body_of d s)) (path_seen d level f (get_or targets s 0) bindings targets) []) [] → seen_at d bindings s ≡ x
    go true k = cc
    go false k = absurd (nil_is_no_cons _ _ (sym k))

tail_same : (x y : RanState) (xs ys : List RanState) → x ∷ xs ≡ y ∷ ys → xs ≡ ys
tail_same x y xs ys e = cc

module _ (d₁ d₂ : Design) (level : ℕ) (alike : Alike d₁ d₂ level) where
  -- ---- what equal records give
  pub same_parent : (s : ℕ) → parent d₁ s ≡ parent d₂ s
  same_parent s = ap (λ (x : State). x.parent) (alike.records s)

  same_byte : (s : ℕ) → state_label d₁ s ≡ state_label d₂ s
  same_byte s = ap (λ (x : State). x.label) (alike.records s)

  pub same_count : (s : ℕ) → (state_at d₁ s).parameters ≡ (state_at d₂ s).parameters
  same_count s = ap (λ (x : State). x.parameters) (alike.records s)

  same_own : (s : ℕ) → own_parameters d₁ s ≡ own_parameters d₂ s
  unfolding own_parameters
  same_own s = rw (same_count s) refl

  same_scope : (s : ℕ) → scope_of d₁ s ≡ scope_of d₂ s
  unfolding scope_of
  same_scope s =
      ap (λ (up : ℕ → ℕ). recursively [] (λ q above. above (up q) ++ own_parameters d₁ q) s) (fun_ext same_parent)
      ∙ ap (λ (own : ℕ → List ℕ). recursively [] (λ q above. above (parent d₂ q) ++ own q) s) (fun_ext same_own)

  same_lower : (v : ℕ) → lower_bound d₁ v ≡ lower_bound d₂ v
  same_lower v = ap (λ (x : State). cond (eqb (v % binding_length) 0) x.first_lower x.second_lower) (alike.records (v / binding_length))

  same_upper : (v : ℕ) → upper_bound d₁ v ≡ upper_bound d₂ v
  same_upper v = ap (λ (x : State). cond (eqb (v % binding_length) 0) x.first_upper x.second_upper) (alike.records (v / binding_length))

  same_bound : (bindings : List ℕ) (s : ℕ) → bound_in d₁ bindings s ≡ bound_in d₂ bindings s
  unfolding bound_in
  same_bound bindings s = rw (same_scope s) refl

  same_label : (bindings : List ℕ) (s : ℕ) → label_with d₁ bindings s ≡ label_with d₂ bindings s
  unfolding label_with
  same_label bindings s = rw (same_bound bindings s, same_byte s, alike.registers) refl

  same_bound_by : (t x y : ℕ) (bindings : List ℕ) → bound_by d₁ t x y bindings ≡ bound_by d₂ t x y bindings
  unfolding bound_by
  same_bound_by t x y bindings = rw (same_count t) refl

  same_bound_sound : (bindings : List ℕ) (v : ℕ) → bound_sound d₁ bindings v ≡ bound_sound d₂ bindings v
  unfolding bound_sound within_bounds
  same_bound_sound bindings v = rw (same_lower v, same_upper v, alike.registers, alike.rows) refl

  pub same_seen : (bindings : List ℕ) (s : ℕ) → state_seen d₁ level bindings s ≡ state_seen d₂ level bindings s
  same_seen bindings s = ap₂ (λ (rows : List ℕ) (label : ℕ). flows_to rows label level) alike.rows (same_label bindings s)

  pub same_holds : (bindings : List ℕ) (s : ℕ) → s < length d₁.states → state_seen d₁ level bindings s ≡ true → holds_fall (body_of d₁ s) ≡ holds_fall (body_of d₂ s)
  same_holds bindings s l seen = holds_alike (body_of d₁ s) (body_of d₂ s) (alike.bodies bindings s l seen)

  pub same_child : (s q : ℕ) → is_child d₁ s q ≡ is_child d₂ s q
  unfolding is_child
  same_child s q = rw (alike.states, same_parent q) refl

  pub same_default : (s : ℕ) → default_target d₁ s ≡ default_target d₂ s
  unfolding default_target
  same_default s = rw (fun_ext (same_child s), alike.states) refl

  pub same_within : (t q : ℕ) → within d₁ t q ≡ within d₂ t q
  unfolding within
  same_within t q = ap (λ (up : ℕ → ℕ). recursively false (λ p above. eqb p t || (not (eqb p 0) && above (up p))) q) (fun_ext same_parent)

  -- a state in whose scope the same is bound has the same label in both
  module _ (b₁ b₂ : List ℕ) (s : ℕ) (bound : bound_in d₁ b₁ s ≡ bound_in d₂ b₂ s) where
    label_together : label_with d₁ b₁ s ≡ label_with d₂ b₂ s
    unfolding label_with
    label_together = rw (bound, same_byte s, alike.registers) refl

    seen_together_by : state_seen d₁ level b₁ s ≡ state_seen d₂ level b₂ s
    seen_together_by = ap₂ (λ (rows : List ℕ) (label : ℕ). flows_to rows label level) alike.rows label_together

  -- ---- paths along default children, from one state in whose scope the same is bound, show the same
  pub default_paths : (keeps₁ : AcceptedDesign d₁) (keeps₂ : AcceptedDesign d₂) (P : ℕ → Type 0) (b₁ b₂ targets₁ targets₂ : List ℕ) → Defaults d₁ P targets₁ → Defaults d₂ P targets₂ → (f q : ℕ) → P q → q < length d₁.states → bound_in d₁ b₁ q ≡ bound_in d₂ b₂ q → path_seen d₁ level f q b₁ targets₁ ≡ path_seen d₂ level f q b₂ targets₂
  unfolding path_seen
  default_paths keeps₁ keeps₂ P b₁ b₂ targets₁ targets₂ table₁ table₂ zero q p l bound = refl
  default_paths keeps₁ keeps₂ P b₁ b₂ targets₁ targets₂ table₁ table₂ (suc f) q p l bound = seen_or_not (decide (state_seen d₁ level b₁ q))
      (λ h.
      let child = default_of_fall d₁ keeps₁ q l h in
      let there : ChildOf d₂ q (default_target d₁ q) = record { no_root = child.no_root; state = rw alike.states at child.state; parent_is = sym (same_parent (default_target d₁ q)) ∙ child.parent_is } in
      let child₂ : ChildOf d₂ q (default_target d₂ q) = rw (same_default q) at there in
      let below : bound_in d₁ b₁ (default_target d₁ q) ≡ bound_in d₂ b₂ (default_target d₁ q) = default_bound d₁ keeps₁ b₁ q child ∙ bound ∙ rw (same_default q) (sym (default_bound d₂ keeps₂ b₂ q child₂)) in
      default_paths keeps₁ keeps₂ P b₁ b₂ targets₁ targets₂ table₁ table₂ f (default_target d₁ q) (table₁.closed q (default_target d₁ q) p child) child.state below)
    where
      falls_or_not : (holds_fall (body_of d₁ q) ≡ true) ⊎ (holds_fall (body_of d₁ q) ≡ false) → (holds_fall (body_of d₁ q) ≡ true → path_seen d₁ level f (default_target d₁ q) b₁ targets₁ ≡ path_seen d₂ level f (default_target d₁ q) b₂ targets₂) → cond (holds_fall (body_of d₁ q)) (path_seen d₁ level f (get_or targets₁ q 0) b₁ targets₁) [] ≡ cond (holds_fall (body_of d₁ q)) (path_seen d₂ level f (get_or targets₂ q 0) b₂ targets₂) []
      falls_or_not (inl h) further =
          rw (h, table₁.default q p l, table₂.default q p (rw (← alike.states) l), ← (same_default q)) (further h)
      falls_or_not (inr h) further = rw h

      seen_or_not : (state_seen d₁ level b₁ q ≡ true) ⊎ (state_seen d₁ level b₁ q ≡ false) → (holds_fall (body_of d₁ q) ≡ true → path_seen d₁ level f (default_target d₁ q) b₁ targets₁ ≡ path_seen d₂ level f (default_target d₁ q) b₂ targets₂) → cond (state_seen d₁ level b₁ q) (seen_at d₁ b₁ q ∷ cond (holds_fall (body_of d₁ q)) (path_seen d₁ level f (get_or targets₁ q 0) b₁ targets₁) []) [] ≡ cond (state_seen d₂ level b₂ q) (seen_at d₂ b₂ q ∷ cond (holds_fall (body_of d₂ q)) (path_seen d₂ level f (get_or targets₂ q 0) b₂ targets₂) []) []
      seen_or_not (inl h) further =
          rw (← (seen_together_by b₁ b₂ q bound), h, ← (same_holds b₁ q l h), ← bound) (ap (λ (rest : List RanState). seen_at d₁ b₁ q ∷ rest) (falls_or_not (decide (holds_fall (body_of d₁ q))) further))
      seen_or_not (inr h) further = rw (← (seen_together_by b₁ b₂ q bound), h)

  pub same_register_seen : (r : ℕ) → register_seen d₁ level r ≡ register_seen d₂ level r
  same_register_seen r = rw (alike.rows, alike.registers) refl

  pub agree_alike : {v w : List ℕ} → Agree d₂ level v w → Agree d₁ level v w
  agree_alike a = record { lengths = a.lengths; values = λ r seen. a.values r (sym (same_register_seen r) ∙ seen) }

  -- what a walk shows begins with a state that both see, in whose scope the same is bound
  walks_on : (b₁ b₂ : List ℕ) (s : ℕ) → state_seen d₁ level b₁ s ≡ state_seen d₂ level b₂ s → bound_in d₁ b₁ s ≡ bound_in d₂ b₂ s → (walk₁ walk₂ : List ℕ) → wider_walk_seen d₁ level b₁ walk₁ ≡ wider_walk_seen d₂ level b₂ walk₂ → wider_walk_seen d₁ level b₁ (s ∷ walk₁) ≡ wider_walk_seen d₂ level b₂ (s ∷ walk₂)
  unfolding wider_walk_seen
  walks_on b₁ b₂ s seen bound walk₁ walk₂ e = rw (seen, bound, e) refl

  nothing_walked : (b₁ b₂ : List ℕ) → wider_walk_seen d₁ level b₁ [] ≡ wider_walk_seen d₂ level b₂ []
  unfolding wider_walk_seen
  nothing_walked b₁ b₂ = refl

  -- two runs from areas with these bindings show the same, and go on to paths that show the same
  pub record Together (f entry₁ entry₂ : ℕ) (b₁ b₂ : List ℕ) (c₁ c₂ : Cycle) : Type 0 where
    pub registers : Agree d₁ level c₁.after.registers c₂.after.registers
    pub walks : wider_walk_seen d₁ level b₁ c₁.walk ≡ wider_walk_seen d₂ level b₂ c₂.walk
    pub paths : path_seen d₁ level f entry₁ c₁.after.bindings c₁.after.targets ≡ path_seen d₂ level f entry₂ c₂.after.bindings c₂.after.targets

  module _ (keeps₁ : AcceptedDesign d₁) (keeps₂ : AcceptedDesign d₂) (is_label : level < length d₁.rows) where
    isLabel₂ : level < length d₂.rows
    isLabel₂ = rw alike.rows at is_label

    -- ---- past the common beginning that is seen, both runs are hidden
    both_hidden : (f s₁ s₂ : ℕ) (a₁ a₂ : Areas) → Live d₁ a₁ s₁ → Live d₂ a₂ s₂ → Good d₁ a₁ → Good d₂ a₂ → Rising d₁ f s₁ a₁.bindings a₁.targets → Rising d₂ f s₂ a₂.bindings a₂.targets → Agree d₁ level a₁.registers a₂.registers → state_seen d₁ level a₁.bindings s₁ ≡ false → state_seen d₂ level a₂.bindings s₂ ≡ false → Together f (entry d₁ f s₁ a₁) (entry d₂ f s₂ a₂) a₁.bindings a₂.bindings (run_from d₁ f s₁ a₁) (run_from d₂ f s₂ a₂)
    both_hidden f s₁ s₂ a₁ a₂ l₁ l₂ good₁ good₂ rising₁ rising₂ agree unseen₁ unseen₂ =
        let hidden₁ = run_hidden d₁ keeps₁ level is_label f s₁ a₁ l₁ good₁ rising₁ unseen₁ in
        let hidden₂ = run_hidden d₂ keeps₂ level isLabel₂ f s₂ a₂ l₂ good₂ rising₂ unseen₂ in
        record {
          registers = agree_trans d₁ level (agree_sym d₁ level hidden₁.registers) (agree_trans d₁ level agree (agree_alike hidden₂.registers));
          walks = hidden₁.walk ∙ sym hidden₂.walk;
          paths =
              path_hidden d₁ level f (entry d₁ f s₁ a₁) (after d₁ f s₁ a₁).bindings (after d₁ f s₁ a₁).targets (entry_hidden d₁ keeps₁ level is_label f s₁ a₁ l₁ good₁ rising₁ unseen₁)
              ∙ sym (path_hidden d₂ level f (entry d₂ f s₂ a₂) (after d₂ f s₂ a₂).bindings (after d₂ f s₂ a₂).targets (entry_hidden d₂ keeps₂ level isLabel₂ f s₂ a₂ l₂ good₂ rising₂ unseen₂));
        }

    -- ---- a state that is seen, in whose scope the same is bound: the bodies are the same
    module _ (f s : ℕ) (a₁ a₂ : Areas) (l₁ : Live d₁ a₁ s) (l₂ : Live d₂ a₂ s) (good₁ : Good d₁ a₁) (good₂ : Good d₂ a₂) (seen : state_seen d₁ level a₁.bindings s ≡ true) (bound : bound_in d₁ a₁.bindings s ≡ bound_in d₂ a₂.bindings s) where
      abbrev EndedBy₁ : Outcome → Type 0
      EndedBy₁ o = Ended d₁ a₁.bindings s (label_with d₁ a₁.bindings s ∷ []) (body_with d₁ a₁.bindings s) o

      abbrev EndedBy₂ : Outcome → Type 0
      EndedBy₂ o = Ended d₂ a₂.bindings s (label_with d₂ a₂.bindings s ∷ []) (body_with d₂ a₂.bindings s) o

      both_seen : state_seen d₁ level a₁.bindings s ≡ state_seen d₂ level a₂.bindings s
      both_seen = seen_together_by a₁.bindings a₂.bindings s bound

      seen₂ : state_seen d₂ level a₂.bindings s ≡ true
      seen₂ = sym both_seen ∙ seen

      length-together : (p : ℕ) → length (bound_in d₁ a₁.bindings p) ≡ length (bound_in d₂ a₂.bindings p)
      unfolding bound_in
      length-together p = length-map (scope_of d₁ p) (λ v. get_or a₁.bindings v 0) ∙ ap length (same_scope p) ∙ sym (length-map (scope_of d₂ p) (λ v. get_or a₂.bindings v 0))

      -- the same is bound in the parent's scope
      above_together : s ≢ 0 → bound_in d₁ a₁.bindings (parent d₁ s) ≡ bound_in d₂ a₂.bindings (parent d₁ s)
      above_together no_root =
          append-same
          (bound_in d₁ a₁.bindings (parent d₁ s))
          (bound_in d₂ a₂.bindings (parent d₁ s))
          (own_bound d₁ a₁.bindings s)
          (own_bound d₂ a₂.bindings s)
          (length-together (parent d₁ s))
          (sym (bound_split d₁ keeps₁ s l₁.state no_root a₁.bindings) ∙ bound ∙ rw (same_parent s) (bound_split d₂ keeps₂ s l₂.state no_root a₂.bindings))

      -- ---- gotos: to one state with one set of arguments, or to states that are not seen
      module _ (t x y : ℕ) (e₁ : EndedBy₁ (Transferred (Goto t x y))) where
        child₁ : ChildOf d₁ (parent d₁ s) t
        child₁ = sibling_child d₁ s t e₁.1

        -- what is bound in the scope of the named state's parent stays
        above_stays : (d : Design) (keeps : AcceptedDesign d) (bindings : List ℕ) → t < length d.states → t ≢ 0 → bound_in d (bound_by d t x y bindings) (parent d t) ≡ bound_in d bindings (parent d t)
        above_stays d keeps bindings state no_root =
            let low = parent_lower d keeps t state no_root in
            bound_same d keeps (parent d t) (omega arith) (bound_by d t x y bindings) bindings (λ v m. bound_other d (rooted d keeps) t x y bindings v (λ e. omega arith) (λ e. omega arith))

        -- and the arguments are bound to its own parameters
        own_argument : (d : Design) (keeps : AcceptedDesign d) (bindings : List ℕ) → length bindings ≡ binding_length * length d.states → t < length d.states → (j : ℕ) → j < (state_at d t).parameters → get_or (bound_by d t x y bindings) (binding_length * t + j) 0 ≡ cond (eqb j 0) x y
        own_argument d keeps bindings size state zero m =
            let same : binding_length * t + 0 ≡ binding_length * t = omega arith in
            rw same (first_bound_lem d (rooted d keeps) t x y bindings m (omega arith))
        own_argument d keeps bindings size state (suc zero) m = second_bound_lem d (rooted d keeps) t x y bindings m (omega arith)
        own_argument d keeps bindings size state (suc (suc j)) m = let most = (keeps.structure.parameters t state).count in absurd (omega arith)

        own_arguments : own_bound d₁ (bound_by d₁ t x y a₁.bindings) t ≡ own_bound d₂ (bound_by d₂ t x y a₂.bindings) t
        unfolding own_bound
        own_arguments =
            let size = own_length d₁ t in
            let state₂ : t < length d₂.states = rw alike.states at child₁.state in
            map_same (λ v. get_or (bound_by d₁ t x y a₁.bindings) v 0) (λ v. get_or (bound_by d₂ t x y a₂.bindings) v 0) (own_parameters d₁ t) (λ i m.
            let inside : i < (state_at d₁ t).parameters = rw size at m in
            rw (own_at d₁ t i inside) (own_argument d₁ keeps₁ a₁.bindings good₁.bindings_length child₁.state i inside ∙ sym (own_argument d₂ keeps₂ a₂.bindings good₂.bindings_length state₂ i (rw (same_count t) at inside))))
            ∙ rw (same_own t) refl

        named_bound : bound_in d₁ (bound_by d₁ t x y a₁.bindings) t ≡ bound_in d₂ (bound_by d₂ t x y a₂.bindings) t
        named_bound =
            let state₂ : t < length d₂.states = rw alike.states at child₁.state in
            let above = above_together (sibling_no_root d₁ s t e₁.1) in
            let up₁ : bound_in d₁ (bound_by d₁ t x y a₁.bindings) (parent d₁ t) ≡ bound_in d₁ a₁.bindings (parent d₁ s) = above_stays d₁ keeps₁ a₁.bindings child₁.state child₁.no_root ∙ rw child₁.parent_is refl in
            let up₂ : bound_in d₂ (bound_by d₂ t x y a₂.bindings) (parent d₂ t) ≡ bound_in d₂ a₂.bindings (parent d₁ s) = above_stays d₂ keeps₂ a₂.bindings state₂ child₁.no_root ∙ rw (← (same_parent t), child₁.parent_is) refl in
            bound_split d₁ keeps₁ t child₁.state child₁.no_root (bound_by d₁ t x y a₁.bindings)
            ∙ ap₂ ◌++◌ (up₁ ∙ above ∙ sym up₂) own_arguments
            ∙ sym (bound_split d₂ keeps₂ t state₂ child₁.no_root (bound_by d₂ t x y a₂.bindings))

      gone_together : (t x y u z w : ℕ) → EndedBy₁ (Transferred (Goto t x y)) → EndedBy₂ (Transferred (Goto u z w)) → OutcomesAgree d₁ level a₁.bindings a₂.bindings (Transferred (Goto t x y)) (Transferred (Goto u z w)) → path_seen d₁ level (suc f) t (bound_by d₁ t x y a₁.bindings) (gone_to d₁ t a₁.targets) ≡ path_seen d₂ level (suc f) u (bound_by d₂ u z w a₂.bindings) (gone_to d₂ u a₂.targets)
      gone_together t x y u z w e₁ e₂ (inl (same, first, second)) =
          let e₂' : EndedBy₂ (Transferred (Goto t x y)) = rw (sym same, sym first, sym second) at e₂ in
          let table₁ = gone_defaults d₁ keeps₁ s t x y a₁ l₁.state good₁ e₁ in
          let table₂ = gone_defaults d₂ keeps₂ s t x y a₂ l₂.state good₂ e₂' in
          let table₂' : Defaults d₂ (λ q. within d₁ t q ≡ true) (gone_to d₂ t a₂.targets) =
          record { default = λ q h k. table₂.default q (sym (same_within t q) ∙ h) k; closed = λ q c h k. same_within t c ∙ table₂.closed q c (sym (same_within t q) ∙ h) k } in
          rw (sym same, sym first, sym second) (default_paths keeps₁ keeps₂ (λ q. within d₁ t q ≡ true) (bound_by d₁ t x y a₁.bindings) (bound_by d₂ t x y a₂.bindings) (gone_to d₁ t a₁.targets) (gone_to d₂ t a₂.targets) table₁ table₂' (suc f) t (within_self d₁ t) (sibling_child d₁ s t e₁.1).state (named_bound t x y e₁))
      gone_together t x y u z w e₁ e₂ (inr (unseen₁, unseen₂)) =
          let unseen : state_seen d₂ level (bound_by d₂ u z w a₂.bindings) u ≡ false = rw (same_bound_by u z w a₂.bindings, same_seen (bound_by d₂ u z w a₂.bindings) u) at unseen₂ in
          path_hidden d₁ level (suc f) t (bound_by d₁ t x y a₁.bindings) (gone_to d₁ t a₁.targets) unseen₁ ∙ sym (path_hidden d₂ level (suc f) u (bound_by d₂ u z w a₂.bindings) (gone_to d₂ u a₂.targets) unseen)

      -- what follows the two bodies, by how they ended
      after_together : Agree d₁ level a₁.registers a₂.registers → path_seen d₁ level (suc f) s a₁.bindings a₁.targets ≡ path_seen d₂ level (suc f) s a₂.bindings a₂.targets → (o₁ o₂ : Outcome) → OutcomesAgree d₁ level a₁.bindings a₂.bindings o₁ o₂ → EndedBy₁ o₁ → EndedBy₂ o₂ → (fell₁ fell₂ : Cycle) (entry₁ entry₂ : ℕ)
          → (holds_fall (body_of d₁ s) ≡ true → get_or fell₁.after.targets s 0 ≡ entry₁) → (holds_fall (body_of d₂ s) ≡ true → get_or fell₂.after.targets s 0 ≡ entry₂)
          → (holds_fall (body_of d₁ s) ≡ true → bound_in d₁ fell₁.after.bindings s ≡ bound_in d₁ a₁.bindings s) → (holds_fall (body_of d₂ s) ≡ true → bound_in d₂ fell₂.after.bindings s ≡ bound_in d₂ a₂.bindings s)
          → (holds_fall (body_of d₁ s) ≡ true → Together f entry₁ entry₂ a₁.bindings a₂.bindings fell₁ fell₂)
          → Together (suc f) (entry_of o₁ s) (entry_of o₂ s) a₁.bindings a₂.bindings (after_body d₁ o₁ s a₁ fell₁) (after_body d₂ o₂ s a₂ fell₂)
      unfolding after_body
      after_together agree paths Continued Continued o e₁ e₂ fell₁ fell₂ entry₁ entry₂ points₁ points₂ stays₁ stays₂ further = record { registers = agree; walks = walks_on a₁.bindings a₂.bindings s both_seen bound [] [] (nothing_walked a₁.bindings a₂.bindings); paths = paths }
      after_together agree paths Continued (Transferred e) o e₁ e₂ fell₁ fell₂ entry₁ entry₂ points₁ points₂ stays₁ stays₂ further = absurd o
      after_together agree paths (Transferred Fall) Continued o e₁ e₂ fell₁ fell₂ entry₁ entry₂ points₁ points₂ stays₁ stays₂ further = absurd o
      after_together agree paths (Transferred (Goto t x y)) Continued o e₁ e₂ fell₁ fell₂ entry₁ entry₂ points₁ points₂ stays₁ stays₂ further = absurd o
      after_together agree paths (Transferred Fall) (Transferred (Goto u z w)) o e₁ e₂ fell₁ fell₂ entry₁ entry₂ points₁ points₂ stays₁ stays₂ further = absurd o
      after_together agree paths (Transferred (Goto t x y)) (Transferred Fall) o e₁ e₂ fell₁ fell₂ entry₁ entry₂ points₁ points₂ stays₁ stays₂ further = absurd o
      after_together agree paths (Transferred Fall) (Transferred Fall) o e₁ e₂ fell₁ fell₂ entry₁ entry₂ points₁ points₂ stays₁ stays₂ further =
          let holds₁ : holds_fall (body_of d₁ s) ≡ true = sym (body_holds d₁ keeps₁ a₁.bindings s) ∙ e₁.1 in
          let holds₂ : holds_fall (body_of d₂ s) ≡ true = sym (body_holds d₂ keeps₂ a₂.bindings s) ∙ e₂.1 in
          let both = further holds₁ in
          let after-seen₁ : state_seen d₁ level fell₁.after.bindings s ≡ true = rw (label_same d₁ keeps₁ s fell₁.after.bindings a₁.bindings (stays₁ holds₁)) seen in
          let after-seen₂ : state_seen d₂ level fell₂.after.bindings s ≡ true = rw (label_same d₂ keeps₂ s fell₂.after.bindings a₂.bindings (stays₂ holds₂)) seen₂ in
          let on₁ : path_seen d₁ level (suc f) s fell₁.after.bindings fell₁.after.targets ≡ seen_at d₁ a₁.bindings s ∷ path_seen d₁ level f entry₁ fell₁.after.bindings fell₁.after.targets = rw (← (points₁ holds₁), ← (stays₁ holds₁)) (path_falls d₁ level f s fell₁.after.bindings fell₁.after.targets after-seen₁ holds₁) in
          let on₂ : path_seen d₂ level (suc f) s fell₂.after.bindings fell₂.after.targets ≡ seen_at d₂ a₂.bindings s ∷ path_seen d₂ level f entry₂ fell₂.after.bindings fell₂.after.targets = rw (← (points₂ holds₂), ← (stays₂ holds₂)) (path_falls d₂ level f s fell₂.after.bindings fell₂.after.targets after-seen₂ holds₂) in
          record {
            registers = both.registers;
            walks = walks_on a₁.bindings a₂.bindings s both_seen bound fell₁.walk fell₂.walk both.walks;
            paths = on₁ ∙ rw (bound, both.paths) refl ∙ sym on₂;
          }
      after_together agree paths (Transferred (Goto t x y)) (Transferred (Goto u z w)) o e₁ e₂ fell₁ fell₂ entry₁ entry₂ points₁ points₂ stays₁ stays₂ further =
          record { registers = agree; walks = walks_on a₁.bindings a₂.bindings s both_seen bound [] [] (nothing_walked a₁.bindings a₂.bindings); paths = gone_together t x y u z w e₁ e₂ o }

      -- the bindings of the second run are sound in the first design too
      sound_there : all_of (bound_sound d₁ a₂.bindings) (scope_of d₁ s) ≡ true
      sound_there = rw (fun_ext (same_bound_sound a₂.bindings), same_scope s) (live_sound d₂ keeps₂ a₂ good₂ s l₂)

      bound_there : bound_in d₁ a₂.bindings s ≡ bound_in d₁ a₁.bindings s
      bound_there = same_bound a₂.bindings s ∙ sym bound

      -- so the body as the first design runs it keeps the flow rules under the bindings of the second run
      flows_there : RunFlows d₁ a₂.bindings s (label_with d₁ a₁.bindings s ∷ []) (body_with d₁ a₁.bindings s)
      unfolding body_with label_with
      flows_there =
          let size : length a₂.bindings ≡ binding_length * length d₁.states = rw alike.states good₂.bindings_length in
          rw bound_there at (flows_with d₁ keeps₁ a₂.bindings s l₁.state sound_there size (state_label d₁ s ∷ []) (body_of d₁ s) (keeps₁.structure.shaped s l₁.state) (keeps₁.structure.scoped s l₁.state) (body_spares d₁ keeps₁.structure s) (keeps₁.flowing s l₁.state))

      bodies_together : Agree d₁ level a₁.registers a₂.registers → SameSeen d₁ level a₁.bindings a₂.bindings (ran d₁ s a₁) (ran d₂ s a₂)
      unfolding all_flow_to body_with
      bodies_together agree =
          let alike-run : exec d₁.registers a₂.registers (body_with d₁ a₁.bindings s) ≡ ran d₂ s a₂ =
          exec_alike d₁.registers (cmd_with (bound_in d₁ a₁.bindings s) (body_of d₁ s)) (cmd_with (bound_in d₁ a₁.bindings s) (body_of d₂ s)) a₂.registers (alike_with (bound_in d₁ a₁.bindings s) (body_of d₁ s) (body_of d₂ s) (alike.bodies a₁.bindings s l₁.state seen))
          ∙ ap₂ (λ (registers : List Register) (bound : List ℕ). exec registers a₂.registers (cmd_with bound (body_of d₂ s))) alike.registers bound in
          let seen-there : state_seen d₁ level a₂.bindings s ≡ true = same_seen a₂.bindings s ∙ seen₂ in
          rw
          (← alike-run)
          (exec_same d₁ level keeps₁ is_label a₁.bindings a₂.bindings s seen seen-there (live_label d₁ keeps₁ a₁ good₁ s l₁) (label_with_lem d₁ keeps₁ a₂.bindings s l₁.state sound_there) (label_with d₁ a₁.bindings s ∷ []) agree (body_with d₁ a₁.bindings s) (body_shaped d₁ keeps₁ s l₁.state a₁.bindings) (body_flows d₁ keeps₁ a₁ good₁ s l₁) flows_there (live_label d₁ keeps₁ a₁ good₁ s l₁, tt) (and_both (state_seen d₁ level a₁.bindings s) true seen refl))

    -- the run from the target of s goes on together
    abbrev Further : ℕ → ℕ → ℕ → Areas → Areas → Type 0
    Further f s₁ s₂ a₁ a₂ =
        holds_fall (body_of d₁ s₁) ≡ true
        → holds_fall (body_of d₂ s₂) ≡ true
        → Agree d₁ level (ran d₁ s₁ a₁).registers (ran d₂ s₂ a₂).registers
        → path_seen d₁ level f (target a₁ s₁) a₁.bindings a₁.targets ≡ path_seen d₂ level f (target a₂ s₂) a₂.bindings a₂.targets
        → Together f (entry d₁ f (target a₁ s₁) (left_by d₁ s₁ a₁)) (entry d₂ f (target a₂ s₂) (left_by d₂ s₂ a₂)) a₁.bindings a₂.bindings (run_from d₁ f (target a₁ s₁) (left_by d₁ s₁ a₁)) (run_from d₂ f (target a₂ s₂) (left_by d₂ s₂ a₂))

    seen_together : (f s : ℕ) (a₁ a₂ : Areas) → Live d₁ a₁ s → Live d₂ a₂ s → Good d₁ a₁ → Good d₂ a₂ → state_seen d₁ level a₁.bindings s ≡ true → bound_in d₁ a₁.bindings s ≡ bound_in d₂ a₂.bindings s → Agree d₁ level a₁.registers a₂.registers → path_seen d₁ level (suc f) s a₁.bindings a₁.targets ≡ path_seen d₂ level (suc f) s a₂.bindings a₂.targets → Further f s s a₁ a₂
        → Together (suc f) (entry d₁ (suc f) s a₁) (entry d₂ (suc f) s a₂) a₁.bindings a₂.bindings (run_from d₁ (suc f) s a₁) (run_from d₂ (suc f) s a₂)
    unfolding run_from
    seen_together f s a₁ a₂ l₁ l₂ good₁ good₂ seen bound agree paths further =
        let same = bodies_together f s a₁ a₂ l₁ l₂ good₁ good₂ seen bound agree in
        let seen' : state_seen d₂ level a₂.bindings s ≡ true = sym (seen_together_by a₁.bindings a₂.bindings s bound) ∙ seen in
        let holds₂ : holds_fall (body_of d₁ s) ≡ true → holds_fall (body_of d₂ s) ≡ true = λ h. sym (same_holds a₁.bindings s l₁.state seen) ∙ h in
        let on : holds_fall (body_of d₁ s) ≡ true → path_seen d₁ level f (target a₁ s) a₁.bindings a₁.targets ≡ path_seen d₂ level f (target a₂ s) a₂.bindings a₂.targets = λ h.
        tail_same (seen_at d₁ a₁.bindings s) (seen_at d₂ a₂.bindings s) _ _ (sym (path_falls d₁ level f s a₁.bindings a₁.targets seen h) ∙ paths ∙ path_falls d₂ level f s a₂.bindings a₂.targets seen' (holds₂ h)) in
        after_together
        f
        s
        (left_by d₁ s a₁)
        (left_by d₂ s a₂)
        (left_live d₁ keeps₁ s s a₁ l₁)
        (left_live d₂ keeps₂ s s a₂ l₂)
        (left_good d₁ keeps₁ s a₁ good₁)
        (left_good d₂ keeps₂ s a₂ good₂)
        seen
        bound
        same.registers
        paths
        (ran d₁ s a₁).outcome
        (ran d₂ s a₂).outcome
        same.outcomes
        (ended d₁ keeps₁ s a₁ good₁ l₁)
        (ended d₂ keeps₂ s a₂ good₂ l₂)
        (run_from d₁ f (target a₁ s) (left_by d₁ s a₁))
        (run_from d₂ f (target a₂ s) (left_by d₂ s a₂))
        (entry d₁ f (target a₁ s) (left_by d₁ s a₁))
        (entry d₂ f (target a₂ s) (left_by d₂ s a₂))
        (fall_points d₁ keeps₁ f s a₁ l₁ good₁)
        (fall_points d₂ keeps₂ f s a₂ l₂ good₂)
        (λ h. bound_same d₁ keeps₁ s l₁.state (after d₁ f (target a₁ s) (left_by d₁ s a₁)).bindings a₁.bindings (fall_keeps d₁ keeps₁ f s a₁ l₁ good₁ h))
        (λ h. bound_same d₂ keeps₂ s l₂.state (after d₂ f (target a₂ s) (left_by d₂ s a₂)).bindings a₂.bindings (fall_keeps d₂ keeps₂ f s a₂ l₂ good₂ h))
        (λ h. further h (holds₂ h) same.registers (on h))

    seen_or_not : (f s₁ s₂ : ℕ) (a₁ a₂ : Areas) → Live d₁ a₁ s₁ → Live d₂ a₂ s₂ → Good d₁ a₁ → Good d₂ a₂ → Rising d₁ (suc f) s₁ a₁.bindings a₁.targets → Rising d₂ (suc f) s₂ a₂.bindings a₂.targets → Agree d₁ level a₁.registers a₂.registers → path_seen d₁ level (suc f) s₁ a₁.bindings a₁.targets ≡ path_seen d₂ level (suc f) s₂ a₂.bindings a₂.targets → Further f s₁ s₂ a₁ a₂ → (state_seen d₁ level a₁.bindings s₁ ≡ true) ⊎ (state_seen d₁ level a₁.bindings s₁ ≡ false)
        → Together (suc f) (entry d₁ (suc f) s₁ a₁) (entry d₂ (suc f) s₂ a₂) a₁.bindings a₂.bindings (run_from d₁ (suc f) s₁ a₁) (run_from d₂ (suc f) s₂ a₂)
    seen_or_not f s₁ s₂ a₁ a₂ l₁ l₂ good₁ good₂ rising₁ rising₂ agree paths further (inl seen) =
        let first : seen_at d₂ a₂.bindings s₂ ≡ seen_at d₁ a₁.bindings s₁ = path_first d₂ level f s₂ (seen_at d₁ a₁.bindings s₁) _ a₂.bindings a₂.targets (sym (path_begins d₁ level f s₁ a₁.bindings a₁.targets seen) ∙ paths) in
        let same : s₂ ≡ s₁ = ap (λ (x : RanState). x.state) first in
        let bound : bound_in d₂ a₂.bindings s₂ ≡ bound_in d₁ a₁.bindings s₁ = ap (λ (x : RanState). x.bound) first in
        rw same (seen_together f s₁ a₁ a₂ l₁ (rw same at l₂) good₁ good₂ seen (sym (rw same at bound)) agree (rw same at paths) (rw same at further))
    seen_or_not f s₁ s₂ a₁ a₂ l₁ l₂ good₁ good₂ rising₁ rising₂ agree paths further (inr unseen) =
        both_hidden (suc f) s₁ s₂ a₁ a₂ l₁ l₂ good₁ good₂ rising₁ rising₂ agree unseen (path_nil d₂ level f s₂ a₂.bindings a₂.targets (sym paths ∙ path_hidden d₁ level (suc f) s₁ a₁.bindings a₁.targets unseen))

    pub run_together : (f s₁ s₂ : ℕ) (a₁ a₂ : Areas) → Live d₁ a₁ s₁ → Live d₂ a₂ s₂ → Good d₁ a₁ → Good d₂ a₂ → Rising d₁ f s₁ a₁.bindings a₁.targets → Rising d₂ f s₂ a₂.bindings a₂.targets → Agree d₁ level a₁.registers a₂.registers → path_seen d₁ level f s₁ a₁.bindings a₁.targets ≡ path_seen d₂ level f s₂ a₂.bindings a₂.targets
        → Together f (entry d₁ f s₁ a₁) (entry d₂ f s₂ a₂) a₁.bindings a₂.bindings (run_from d₁ f s₁ a₁) (run_from d₂ f s₂ a₂)
    unfolding run_from path_seen
    run_together zero s₁ s₂ a₁ a₂ l₁ l₂ good₁ good₂ rising₁ rising₂ agree paths = record { registers = agree; walks = nothing_walked a₁.bindings a₂.bindings; paths = refl }
    run_together (suc f) s₁ s₂ a₁ a₂ l₁ l₂ good₁ good₂ rising₁ rising₂ agree paths =
        seen_or_not
        f
        s₁
        s₂
        a₁
        a₂
        l₁
        l₂
        good₁
        good₂
        rising₁
        rising₂
        agree
        paths
        (λ h₁ h₂ agree' paths'. run_together f (target a₁ s₁) (target a₂ s₂) (left_by d₁ s₁ a₁) (left_by d₂ s₂ a₂) (left_live d₁ keeps₁ s₁ (target a₁ s₁) a₁ (target_live d₁ keeps₁ a₁ good₁ s₁ l₁)) (left_live d₂ keeps₂ s₂ (target a₂ s₂) a₂ (target_live d₂ keeps₂ a₂ good₂ s₂ l₂)) (left_good d₁ keeps₁ s₁ a₁ good₁) (left_good d₂ keeps₂ s₂ a₂ good₂) (rising₁ h₁).1 (rising₂ h₂).1 agree' paths')
        (decide (state_seen d₁ level a₁.bindings s₁))
