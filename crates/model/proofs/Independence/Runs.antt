-- The relation that holds between two runs from reset, and that no step of a list of calls breaks: both areas are good, labels rise along both live paths,
-- and the registers and the beginnings of the paths that are seen agree.
use Prim.Native.Nat.{ℕ, zero, suc, ◌+◌, ◌*◌, ◌≤◌, ◌<◌}
use mathlib.Core.Path.{◌≡◌, refl, sym, ◌∙◌, ap, fun_ext}
use mathlib.Core.Logic.{◌⊎◌, inl, inr}
use mathlib.Core.Bool.{Bool, true, false, cond}
use mathlib.Core.List.{List, [], ◌∷◌, map}
use native.Mathlib.Omega.{arith}
use native.Mathlib.Decide.{dec_lt, ℕ_discrete}
use lib.Dec.{eqb}
use borrow.Author.Tests.{eq-eqb}
use lib.Pow.{pow_pos}
use lib.ListN.{length, get_or, length-set, get_or-eq_default}
use Rattle.model.specs.declared.Ending.TheVariants.{Goto, Fall}
use Rattle.model.specs.declared.Outcome.{Outcome}
use Rattle.model.specs.declared.Outcome.TheVariants.{Continued, Transferred}
use Rattle.model.specs.Indices.{tabulate, tabulate_from, join_below}
use Rattle.model.specs.Image.{Design, state_at, no_register}
use Rattle.model.specs.States.{parent, default_target}
use Rattle.model.specs.Trees.{Cmd}
use Rattle.model.specs.Limits.{binding_length}
use Rattle.model.specs.Parameters.{own_parameters}
use Rattle.model.specs.Bindings.{label_with, body_with, bound_in, on_path, byte_sound, bound_sound, binding_sound}
use Rattle.model.specs.Rules.{DefaultChild}
use Rattle.model.specs.Values.{modulus}
use Rattle.model.specs.Machine.{Areas, reset_areas, run_from, cycle}
use Rattle.model.specs.Parties.{RanState, register_seen, values_seen, walk_seen, wider_walk_seen, given_unseen}
use Rattle.model.proofs.Laws.Booleans.{decide, cond_true, or_first}
use Rattle.model.proofs.Laws.Indices.{length-tabulate, get_d_tabulate, join_same}
use Rattle.model.proofs.Laws.Cycles.{reset_length}
use Rattle.model.proofs.Laws.States.{is_child_lem, default_least, default_sound, sibling_no_root}
use Rattle.model.proofs.Independence.Relation.{Good, with_register, start_areas, Bisimulation}
use Rattle.model.proofs.Independence.Endings.{Ended}
use Rattle.model.proofs.Independence.Agreement.{Agree, agree_self, agree_trans, agree_sym, agree_unseen, agree_set}
use Rattle.model.proofs.Independence.Widths.{Fitting, set_fitting, reset_fitting}
use Rattle.model.proofs.Laws.Scopes.{all_own_iff, scope_root}
use Rattle.model.proofs.Laws.Paths.{path_above}
use Rattle.model.proofs.Laws.Bindings.{sound_make}
use Rattle.model.proofs.Laws.Views.{walk_by_wider}
use Rattle.model.proofs.Independence.Instances.{AcceptedDesign}
use Rattle.model.proofs.Independence.Path.{entry_of, ran, entry, live_sound, root_live, parent_lower, ended, run_good, run_ran}
use Rattle.model.proofs.Independence.Rising.{Rising, Defaults, run_rises, default_rises}
use Rattle.model.proofs.Independence.Cycle.{Alike, path_seen, default_paths, same_count, same_register_seen, agree_alike, Together, run_together}

module _ (d : Design) where
  -- ---- reset
  reset_defaults : Defaults d (λ q. Unit {0}) (reset_areas d).targets
  unfolding reset_areas
  reset_defaults = record { default = λ q p l. get_d_tabulate (default_target d) (length d.states) q 0 l; closed = λ q c p child. tt }

  -- ---- a cycle runs from the root, and goes on from the root
  module _ (keeps : AcceptedDesign d) where
    -- along the targets of reset no state has parameters
    reset_none : (s : ℕ) → s < length d.states → on_path d (reset_areas d).targets s ≡ true → (state_at d s).parameters ≡ 0
    reset_none s l on = go (ℕ_discrete s 0)
      where
        go : Dec (s ≡ 0) → (state_at d s).parameters ≡ 0
        go (yes e) = (keeps.structure.parameters s l).root_none e
        go (no no_root) =
            let low = parent_lower d keeps s l no_root in
            let above = path_above d (reset_areas d).targets s no_root low on in
            let is : default_target d (parent d s) ≡ s = sym (reset_defaults.default (parent d s) tt (omega arith)) ∙ above.1 in
            let child : DefaultChild d (parent d s) s = record { child = is_child_lem d (parent d s) s (record { no_root = no_root; state = l; parent_is = refl }); lowest = λ r h. rw is at (default_least d (parent d s) r h) } in
            (keeps.structure.parameters s l).default_none (parent d s) child

    reset_zero : (v : ℕ) → get_or (reset_areas d).bindings v 0 ≡ 0
    unfolding reset_areas
    reset_zero v = go (dec_lt v (binding_length * length d.states))
      where
        go : Dec (v < binding_length * length d.states) → get_or (reset_areas d).bindings v 0 ≡ 0
        go (yes l) = get_d_tabulate (λ v. 0) (binding_length * length d.states) v 0 l
        go (no h) =
            let size : length (reset_areas d).bindings ≡ binding_length * length d.states = length-tabulate (λ v. 0) (binding_length * length d.states) in
            get_or-eq_default (reset_areas d).bindings 0 {n = v} (omega arith)

    reset_byte : (v : ℕ) → byte_sound d (reset_areas d).bindings v ≡ true
    unfolding byte_sound
    reset_byte v = or_first (eqb (get_or (reset_areas d).bindings v 0) 0) _ (eq-eqb (get_or (reset_areas d).bindings v 0) 0 (reset_zero v))

    reset_bound : (s : ℕ) → s < length d.states → binding_sound d (reset_areas d).targets (reset_areas d).bindings s ≡ true
    reset_bound s l =
        sound_make d (reset_areas d).targets (reset_areas d).bindings s (reset_byte (binding_length * s)) (reset_byte (binding_length * s + 1)) (λ on.
        let none = reset_none s l on in
        (all_own_iff d s (bound_sound d (reset_areas d).bindings)).1 (λ j m. absurd (omega arith)))

    -- areas whose targets and bindings are those of reset
    pub reset_good : (values : List ℕ) → length values ≡ length d.registers → Fitting d.registers values → Good d (record { registers = values; targets = (reset_areas d).targets; bindings = (reset_areas d).bindings })
    unfolding reset_areas
    reset_good values size fitting =
        record {
          registers_length = size;
          targets_length = length-tabulate (default_target d) (length d.states);
          fitting = fitting;
          sound = λ s l. default_sound d (tabulate (default_target d) (length d.states)) s (get_d_tabulate (default_target d) (length d.states) s 0 l);
          bindings_length = length-tabulate (λ v. 0) (binding_length * length d.states);
          bound = reset_bound;
        }

    pub nothing_bound : 0 < length d.states → (bindings : List ℕ) → bound_in d bindings 0 ≡ []
    unfolding bound_in own_parameters tabulate_from
    nothing_bound l bindings = rw (scope_root d, (keeps.structure.parameters 0 l).root_none refl) refl

    root_stays : (o : Outcome) (bindings context : List ℕ) (c : Cmd) → Ended d bindings 0 context c o → entry_of o 0 ≡ 0
    root_stays Continued bindings context c e = refl
    root_stays (Transferred Fall) bindings context c e = refl
    root_stays (Transferred (Goto t x y)) bindings context c e = absurd (sibling_no_root d 0 t e.1 refl)

    pub entry_root : (f : ℕ) (a : Areas) → 0 < length d.states → Good d a → entry d f 0 a ≡ 0
    entry_root zero a l good = refl
    entry_root (suc f) a l good = root_stays (ran d 0 a).outcome a.bindings (label_with d a.bindings 0 ∷ []) (body_with d a.bindings 0) (ended d keeps 0 a good (root_live d keeps a l))

  -- ---- the start: what is seen has its reset value
  module _ (level : ℕ) (given : ℕ → ℕ) (values : List ℕ) where
    pub length-given : length (given_unseen d level given values) ≡ length d.registers
    unfolding given_unseen
    length-given = length-tabulate _ (length d.registers)

    given_at : (r : ℕ) → r < length d.registers → get_or (given_unseen d level given values) r 0 ≡ cond (register_seen d level r) (get_or values r 0) (given r)
    unfolding given_unseen
    given_at r l = get_d_tabulate (λ r. cond (register_seen d level r) (get_or values r 0) (given r)) (length d.registers) r 0 l

    given_past : (r : ℕ) → length d.registers ≤ r → get_or (given_unseen d level given values) r 0 ≡ 0
    given_past r l = let size = length-given in get_or-eq_default (given_unseen d level given values) 0 {n = r} (omega arith)

    pub given_fitting : Fitting d.registers values → ((r : ℕ) → r < length d.registers → given r < modulus d.registers r) → Fitting d.registers (given_unseen d level given values)
    given_fitting h k r = go (dec_lt r (length d.registers))
      where
        either : r < length d.registers → (b : Bool) → cond b (get_or values r 0) (given r) < modulus d.registers r
        either l true = h r
        either l false = k r l

        go : Dec (r < length d.registers) → get_or (given_unseen d level given values) r 0 < modulus d.registers r
        go (yes l) = rw (given_at r l) (either l (register_seen d level r))
        go (no m) = rw (given_past r (omega arith)) (pow_pos (get_or d.registers r no_register).width)

    pub given_agrees : length values ≡ length d.registers → Agree d level (given_unseen d level given values) values
    given_agrees size = record { lengths = length-given ∙ sym size; values = λ r seen. go r seen (dec_lt r (length d.registers)) }
      where
        go : (r : ℕ) → register_seen d level r ≡ true → Dec (r < length d.registers) → get_or (given_unseen d level given values) r 0 ≡ get_or values r 0
        go r seen (yes l) = given_at r l ∙ cond_true (register_seen d level r) (get_or values r 0) (given r) seen
        go r seen (no m) = given_past r (omega arith) ∙ sym (get_or-eq_default values 0 {n = r} (omega arith))

-- ---- two runs
module _ (d₁ d₂ : Design) (level : ℕ) where
  pub record Related (a b : Areas) : Type 0 where
    pub good₁ : Good d₁ a
    pub good₂ : Good d₂ b
    pub rising₁ : Rising d₁ (length d₁.states) 0 a.bindings a.targets
    pub rising₂ : Rising d₂ (length d₁.states) 0 b.bindings b.targets
    pub agree : Agree d₁ level a.registers b.registers
    pub paths : path_seen d₁ level (length d₁.states) 0 a.bindings a.targets ≡ path_seen d₂ level (length d₁.states) 0 b.bindings b.targets

  module _
      (alike : Alike d₁ d₂ level)
      (keeps₁ : AcceptedDesign d₁)
      (keeps₂ : AcceptedDesign d₂)
      (rooted : 0 < length d₁.states)
      (is_label : level < length d₁.rows)
    where
      rooted₂ : 0 < length d₂.states
      rooted₂ = rw alike.states at rooted

      isLabel₂ : level < length d₂.rows
      isLabel₂ = rw alike.rows at is_label

      same_reset : (reset_areas d₁).registers ≡ (reset_areas d₂).registers
      unfolding reset_areas
      same_reset = rw alike.registers refl

      -- the root has no parameters
      root_bound : bound_in d₁ (reset_areas d₁).bindings 0 ≡ bound_in d₂ (reset_areas d₂).bindings 0
      root_bound = nothing_bound d₁ keeps₁ rooted (reset_areas d₁).bindings ∙ sym (nothing_bound d₂ keeps₂ rooted₂ (reset_areas d₂).bindings)

      -- areas with the targets and the bindings of reset, and registers that agree
      from_reset_lem : (v w : List ℕ) → length v ≡ length d₁.registers → Fitting d₁.registers v → Fitting d₂.registers w → Agree d₁ level v w → Related (record { registers = v; targets = (reset_areas d₁).targets; bindings = (reset_areas d₁).bindings }) (record { registers = w; targets = (reset_areas d₂).targets; bindings = (reset_areas d₂).bindings })
      from_reset_lem v w size fitting₁ fitting₂ agree =
          let good₁ = reset_good d₁ keeps₁ v size fitting₁ in
          let good₂ = reset_good d₂ keeps₂ w (sym agree.lengths ∙ size ∙ ap length alike.registers) fitting₂ in
          let root₁ = root_live d₁ keeps₁ (record { registers = v; targets = (reset_areas d₁).targets; bindings = (reset_areas d₁).bindings }) rooted in
          let root₂ = root_live d₂ keeps₂ (record { registers = w; targets = (reset_areas d₂).targets; bindings = (reset_areas d₂).bindings }) rooted₂ in
          record {
            good₁ = good₁;
            good₂ = good₂;
            rising₁ = default_rises d₁ keeps₁ (reset_areas d₁).bindings (λ q. Unit {0}) (reset_areas d₁).targets (reset_defaults d₁) (length d₁.states) 0 tt rooted (live_sound d₁ keeps₁ _ good₁ 0 root₁);
            rising₂ = default_rises d₂ keeps₂ (reset_areas d₂).bindings (λ q. Unit {0}) (reset_areas d₂).targets (reset_defaults d₂) (length d₁.states) 0 tt rooted₂ (live_sound d₂ keeps₂ _ good₂ 0 root₂);
            agree = agree;
            paths = default_paths d₁ d₂ level alike keeps₁ keeps₂ (λ q. Unit {0}) (reset_areas d₁).bindings (reset_areas d₂).bindings (reset_areas d₁).targets (reset_areas d₂).targets (reset_defaults d₁) (reset_defaults d₂) (length d₁.states) 0 tt rooted root_bound;
          }

      starts : (given₁ given₂ : ℕ → ℕ) → ((r : ℕ) → r < length d₁.registers → given₁ r < modulus d₁.registers r) → ((r : ℕ) → r < length d₂.registers → given₂ r < modulus d₂.registers r) → Related (start_areas d₁ level given₁) (start_areas d₂ level given₂)
      starts given₁ given₂ h k =
          let agree₂ : Agree d₁ level (given_unseen d₂ level given₂ (reset_areas d₂).registers) (reset_areas d₁).registers =
          rw same_reset (agree_alike d₁ d₂ level alike (given_agrees d₂ level given₂ (reset_areas d₂).registers (reset_length d₂))) in
          from_reset_lem
          (given_unseen d₁ level given₁ (reset_areas d₁).registers)
          (given_unseen d₂ level given₂ (reset_areas d₂).registers)
          (length-given d₁ level given₁ (reset_areas d₁).registers)
          (given_fitting d₁ level given₁ (reset_areas d₁).registers (reset_fitting d₁ keeps₁.structure) h)
          (given_fitting d₂ level given₂ (reset_areas d₂).registers (reset_fitting d₂ keeps₂.structure) k)
          (agree_trans d₁ level (given_agrees d₁ level given₁ (reset_areas d₁).registers (reset_length d₁)) (agree_sym d₁ level agree₂))

      reset_related : Related (reset_areas d₁) (reset_areas d₂)
      reset_related = from_reset_lem (reset_areas d₁).registers (reset_areas d₂).registers (reset_length d₁) (reset_fitting d₁ keeps₁.structure) (reset_fitting d₂ keeps₂.structure) (rw same_reset (agree_self d₁ level (reset_areas d₂).registers))

      values_same : (a b : Areas) → Related a b → values_seen d₁ level a.registers ≡ values_seen d₂ level b.registers
      unfolding values_seen
      values_same a b related =
          let shown : values_seen d₁ level a.registers ≡ join_below (λ r. cond (register_seen d₂ level r) (get_or b.registers r 0 ∷ []) []) (length d₁.registers) = join_same _ _ (length d₁.registers) (λ r l. at r (decide (register_seen d₁ level r))) in
          shown ∙ ap (λ (n : ℕ). join_below (λ r. cond (register_seen d₂ level r) (get_or b.registers r 0 ∷ []) []) n) (ap length alike.registers)
        where
          at : (r : ℕ) → (register_seen d₁ level r ≡ true) ⊎ (register_seen d₁ level r ≡ false) → cond (register_seen d₁ level r) (get_or a.registers r 0 ∷ []) [] ≡ cond (register_seen d₂ level r) (get_or b.registers r 0 ∷ []) []
          at r (inl h) = rw (← (same_register_seen d₁ d₂ level alike r), h, related.agree.values r h)
          at r (inr h) = rw (← (same_register_seen d₁ d₂ level alike r), h)

      -- ---- a cycle
      module _ (a b : Areas) (related : Related a b) where
        as_many : cycle d₂ b ≡ run_from d₂ (length d₁.states) 0 b
        unfolding cycle
        as_many = ap (λ (n : ℕ). run_from d₂ n 0 b) (sym alike.states)

        together : Together d₁ d₂ level alike (length d₁.states) 0 0 a.bindings b.bindings (cycle d₁ a) (run_from d₂ (length d₁.states) 0 b)
        unfolding cycle
        together =
            let run =
            run_together
            d₁
            d₂
            level
            alike
            keeps₁
            keeps₂
            is_label
            (length d₁.states)
            0
            0
            a
            b
            (root_live d₁ keeps₁ a rooted)
            (root_live d₂ keeps₂ b rooted₂)
            related.good₁
            related.good₂
            related.rising₁
            related.rising₂
            related.agree
            related.paths in
            rw (entry_root d₁ keeps₁ (length d₁.states) a rooted related.good₁, entry_root d₂ keeps₂ (length d₁.states) b rooted₂ related.good₂) at run

        cycle_wider_walks : wider_walk_seen d₁ level (cycle d₁ a).ran_with (cycle d₁ a).walk ≡ wider_walk_seen d₂ level (cycle d₂ b).ran_with (cycle d₂ b).walk
        unfolding cycle
        cycle_wider_walks = rw (as_many, run_ran d₁ (length d₁.states) 0 a, run_ran d₂ (length d₁.states) 0 b) together.walks

        -- both designs have as many parameters in each state, so they take the same part of it
        cycle_walks : walk_seen d₁ level (cycle d₁ a).ran_with (cycle d₁ a).walk ≡ walk_seen d₂ level (cycle d₂ b).ran_with (cycle d₂ b).walk
        cycle_walks =
            walk_by_wider d₁ (cycle d₁ a).ran_with level (cycle d₁ a).walk
            ∙ rw cycle_wider_walks (ap (λ (part : RanState → RanState). map part (wider_walk_seen d₂ level (cycle d₂ b).ran_with (cycle d₂ b).walk)) (fun_ext (λ x. rw (same_count d₁ d₂ level alike x.state) refl)))
            ∙ sym (walk_by_wider d₂ (cycle d₂ b).ran_with level (cycle d₂ b).walk)

        cycle_related : Related (cycle d₁ a).after (cycle d₂ b).after
        unfolding cycle
        cycle_related =
            let root₁ = entry_root d₁ keeps₁ (length d₁.states) a rooted related.good₁ in
            let root₂ = entry_root d₂ keeps₂ (length d₁.states) b rooted₂ related.good₂ in
            rw
            as_many
            (record {
              good₁ = run_good d₁ keeps₁ (length d₁.states) 0 a (root_live d₁ keeps₁ a rooted) related.good₁;
              good₂ = run_good d₂ keeps₂ (length d₁.states) 0 b (root_live d₂ keeps₂ b rooted₂) related.good₂;
              rising₁ = rw root₁ at (run_rises d₁ keeps₁ level is_label (length d₁.states) 0 a (root_live d₁ keeps₁ a rooted) related.good₁ related.rising₁);
              rising₂ = rw root₂ at (run_rises d₂ keeps₂ level isLabel₂ (length d₁.states) 0 b (root_live d₂ keeps₂ b rooted₂) related.good₂ related.rising₂);
              agree = together.registers;
              paths = together.paths;
            })

      -- ---- a port write
      set_good : (d : Design) (a : Areas) → Good d a → (r v : ℕ) → v < modulus d.registers r → Good d (with_register r v a)
      set_good d a good r v l =
          record {
            registers_length = length-set a.registers r v ∙ good.registers_length;
            targets_length = good.targets_length;
            fitting = set_fitting d.registers a.registers r v l good.fitting;
            sound = good.sound;
            bindings_length = good.bindings_length;
            bound = good.bound;
          }

      pub related_bisimulation : Bisimulation d₁ d₂ level Related
      related_bisimulation =
          record {
            good = λ a b related. related.good₁;
            values = values_same;
            starts = starts;
            resets = reset_related;
            cycles = cycle_related;
            walks = cycle_walks;
            wider_walks = cycle_wider_walks;
            writes_seen =
                λ a b related r v l.
                record {
                  good₁ = set_good d₁ a related.good₁ r v l;
                  good₂ = set_good d₂ b related.good₂ r v (rw (← alike.registers) l);
                  rising₁ = related.rising₁;
                  rising₂ = related.rising₂;
                  agree = agree_set d₁ level related.agree r v;
                  paths = related.paths;
                };
            writes_unseen =
                λ a b related r v l unseen.
                record {
                  good₁ = set_good d₁ a related.good₁ r v l;
                  good₂ = related.good₂;
                  rising₁ = related.rising₁;
                  rising₂ = related.rising₂;
                  agree = agree_trans d₁ level (agree_sym d₁ level (agree_unseen d₁ level a.registers r v unseen)) related.agree;
                  paths = related.paths;
                };
          }
