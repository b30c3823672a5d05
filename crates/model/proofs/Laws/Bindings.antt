-- Bindings along the current targets (02, E8). Every parameter in the scope of a state was declared by a state above it, which is on the path where the state is:
-- so on the path every parameter in scope is soundly bound. And a goto leaves sound bindings sound: below the state that it names the path goes on along default
-- children, which have no parameters.
use Prim.Native.Nat.{ℕ, zero, suc, ◌+◌, ◌*◌, ◌≤◌, ◌<◌}
use mathlib.Core.Path.{◌≡◌, refl, sym, ◌∙◌}
use mathlib.Core.Logic.{◌⊎◌, inl, inr, ◌≢◌}
use mathlib.Core.Bool.{Bool, true, false, ◌&&◌, not, cond}
use mathlib.Core.List.{List}
use native.Mathlib.Omega.{arith}
use native.Mathlib.Decide.{dec_lt, ℕ_discrete}
use lib.Dec.{ltb, eqb}
use lib.ListN.{length, get_or, set, length-set}
use lib.Seq.{get_or-set_same, get_or-set_other}
use borrow.Author.Tests.{lt-ltb, le-ltb}
use Rattle.model.specs.Limits.{binding_length}
use Rattle.model.specs.Image.{Design, state_at}
use Rattle.model.specs.Lattice.{register_label}
use Rattle.model.specs.States.{parent, is_port, default_target, within}
use Rattle.model.specs.Parameters.{all_of, own_parameters, scope_of, within_bounds}
use Rattle.model.specs.Bindings.{bound_by, on_path, byte_sound, bound_sound, binding_sound}
use Rattle.model.specs.Rules.{DefaultChild, ParametersKeep}
use Rattle.model.specs.Machine.{gone_to}
use Rattle.model.proofs.Laws.Booleans.{decide, and_first, and_second, and_both, or_second, true_or_false, false_unless_true, false_not, implies_apply, implies_make, cond_false}
use Rattle.model.proofs.Laws.Choices.{all_of_append}
use Rattle.model.proofs.Laws.Scopes.{all_own_iff, scope_root, scope_step}
use Rattle.model.proofs.Laws.Indices.{nothing_below_zero}
use Rattle.model.proofs.Laws.States.{ChildOf, is_child_lem, default_least}
use Rattle.model.proofs.Laws.Paths.{path_root, path_child, path_above}
use Rattle.model.proofs.Laws.Gotos.{within_self, within_child, within_above, within_parent, gone_parent, gone_other, gone_within, gone_below}

-- register r may be bound to parameter v
pub record Binds (d : Design) (v r : ℕ) : Type 0 where
  pub exists : r < length d.registers
  pub no_port : is_port d r ≡ false
  pub within : within_bounds d v (register_label d r) ≡ true

module _ (d : Design) where
  -- ---- sound bindings
  pub sound_bytes : (targets bindings : List ℕ) (s : ℕ) → binding_sound d targets bindings s ≡ true → (byte_sound d bindings (binding_length * s) ≡ true) × (byte_sound d bindings (binding_length * s + 1) ≡ true)
  unfolding binding_sound
  sound_bytes targets bindings s h =
      let bytes = and_first (byte_sound d bindings (binding_length * s) && byte_sound d bindings (binding_length * s + 1)) _ h in
      (and_first (byte_sound d bindings (binding_length * s)) (byte_sound d bindings (binding_length * s + 1)) bytes, and_second (byte_sound d bindings (binding_length * s)) (byte_sound d bindings (binding_length * s + 1)) bytes)

  pub sound_own : (targets bindings : List ℕ) (s : ℕ) → binding_sound d targets bindings s ≡ true → on_path d targets s ≡ true → all_of (bound_sound d bindings) (own_parameters d s) ≡ true
  unfolding binding_sound
  sound_own targets bindings s h on = implies_apply (on_path d targets s) _ (and_second (byte_sound d bindings (binding_length * s) && byte_sound d bindings (binding_length * s + 1)) _ h) on

  pub sound_make : (targets bindings : List ℕ) (s : ℕ) → byte_sound d bindings (binding_length * s) ≡ true → byte_sound d bindings (binding_length * s + 1) ≡ true → (on_path d targets s ≡ true → all_of (bound_sound d bindings) (own_parameters d s) ≡ true) → binding_sound d targets bindings s ≡ true
  unfolding binding_sound
  sound_make targets bindings s first second own =
      and_both
      (byte_sound d bindings (binding_length * s) && byte_sound d bindings (binding_length * s + 1))
      _
      (and_both (byte_sound d bindings (binding_length * s)) (byte_sound d bindings (binding_length * s + 1)) first second)
      (implies_make (on_path d targets s) _ own)

  -- parents have lower numbers, and the root is its own
  pub record Rooted : Type 0 where
    pub lower : (s : ℕ) → s < length d.states → s ≢ 0 → parent d s < s

  module _ (rooted : Rooted) where
    -- on the path every parameter in scope is soundly bound
    module _ (targets bindings : List ℕ) (sound : (s : ℕ) → s < length d.states → binding_sound d targets bindings s ≡ true) where
      scope_sound_below : (n s : ℕ) → s < n → s < length d.states → on_path d targets s ≡ true → all_of (bound_sound d bindings) (scope_of d s) ≡ true
      scope_sound_below zero s l k on = absurd (nothing_below_zero l)
      scope_sound_below (suc n) s l k on = go (ℕ_discrete s 0) (scope_sound_below n)
        where
          go : Dec (s ≡ 0) → ((s : ℕ) → s < n → s < length d.states → on_path d targets s ≡ true → all_of (bound_sound d bindings) (scope_of d s) ≡ true) → all_of (bound_sound d bindings) (scope_of d s) ≡ true
          go (yes e) earlier = rw (e, scope_root d) (rw e at (sound_own targets bindings s (sound s k) on))
          go (no no_root) earlier =
              let low = rooted.lower s k no_root in
              let above = path_above d targets s no_root low on in
              rw (scope_step d s low) ((all_of_append (bound_sound d bindings) (scope_of d (parent d s)) (own_parameters d s)).1 (earlier (parent d s) (omega arith) (omega arith) above.0, sound_own targets bindings s (sound s k) on))

      pub scope_sound : (s : ℕ) → s < length d.states → on_path d targets s ≡ true → all_of (bound_sound d bindings) (scope_of d s) ≡ true
      scope_sound s k on = scope_sound_below (suc s) s (omega arith) k on

    -- ---- a goto
    module _ (t x y : ℕ) where
      pub bound_other : (bindings : List ℕ) (v : ℕ) → v ≢ binding_length * t → v ≢ binding_length * t + 1 → get_or (bound_by d t x y bindings) v 0 ≡ get_or bindings v 0
      unfolding bound_by
      bound_other bindings v first second = go (ltb 0 (state_at d t).parameters) (ltb 1 (state_at d t).parameters)
        where
          go : (b c : Bool) → get_or (cond c (set (cond b (set bindings (binding_length * t) x) bindings) (binding_length * t + 1) y) (cond b (set bindings (binding_length * t) x) bindings)) v 0 ≡ get_or bindings v 0
          go true true = get_or-set_other (set bindings (binding_length * t) x) (binding_length * t + 1) v y 0 second ∙ get_or-set_other bindings (binding_length * t) v x 0 first
          go true false = get_or-set_other bindings (binding_length * t) v x 0 first
          go false true = get_or-set_other bindings (binding_length * t + 1) v y 0 second
          go false false = refl

      pub length-bound : (bindings : List ℕ) → length (bound_by d t x y bindings) ≡ length bindings
      unfolding bound_by
      length-bound bindings = go (ltb 0 (state_at d t).parameters) (ltb 1 (state_at d t).parameters)
        where
          go : (b c : Bool) → length (cond c (set (cond b (set bindings (binding_length * t) x) bindings) (binding_length * t + 1) y) (cond b (set bindings (binding_length * t) x) bindings)) ≡ length bindings
          go true true = length-set (set bindings (binding_length * t) x) (binding_length * t + 1) y ∙ length-set bindings (binding_length * t) x
          go true false = length-set bindings (binding_length * t) x
          go false true = length-set bindings (binding_length * t + 1) y
          go false false = refl

      -- what the goto binds, and what stays
      pub first_bound_lem : (bindings : List ℕ) → 0 < (state_at d t).parameters → binding_length * t + 1 < length bindings → get_or (bound_by d t x y bindings) (binding_length * t) 0 ≡ x
      unfolding bound_by
      first_bound_lem bindings some l = rw (lt-ltb 0 (state_at d t).parameters some) (go (ltb 1 (state_at d t).parameters))
        where
          put : get_or (set bindings (binding_length * t) x) (binding_length * t) 0 ≡ x
          put = get_or-set_same bindings (binding_length * t) x 0 (omega arith)

          go : (c : Bool) → get_or (cond c (set (set bindings (binding_length * t) x) (binding_length * t + 1) y) (set bindings (binding_length * t) x)) (binding_length * t) 0 ≡ x
          go true = get_or-set_other (set bindings (binding_length * t) x) (binding_length * t + 1) (binding_length * t) y 0 (λ e. omega arith) ∙ put
          go false = put

      pub second_bound_lem : (bindings : List ℕ) → 1 < (state_at d t).parameters → binding_length * t + 1 < length bindings → get_or (bound_by d t x y bindings) (binding_length * t + 1) 0 ≡ y
      unfolding bound_by
      second_bound_lem bindings two l =
          rw (lt-ltb 1 (state_at d t).parameters two, lt-ltb 0 (state_at d t).parameters (omega arith)) (get_or-set_same (set bindings (binding_length * t) x) (binding_length * t + 1) y 0 (rw (length-set bindings (binding_length * t) x) l))

      first_stays : (bindings : List ℕ) → (0 < (state_at d t).parameters → ⊥) → get_or (bound_by d t x y bindings) (binding_length * t) 0 ≡ get_or bindings (binding_length * t) 0
      unfolding bound_by
      first_stays bindings none = rw (le-ltb 0 (state_at d t).parameters (omega (arith, none)), le-ltb 1 (state_at d t).parameters (omega (arith, none))) refl

      second_stays : (bindings : List ℕ) → (1 < (state_at d t).parameters → ⊥) → get_or (bound_by d t x y bindings) (binding_length * t + 1) 0 ≡ get_or bindings (binding_length * t + 1) 0
      unfolding bound_by
      second_stays bindings none = rw (le-ltb 1 (state_at d t).parameters (omega (arith, none))) (go (ltb 0 (state_at d t).parameters))
        where
          go : (b : Bool) → get_or (cond b (set bindings (binding_length * t) x) bindings) (binding_length * t + 1) 0 ≡ get_or bindings (binding_length * t + 1) 0
          go true = get_or-set_other bindings (binding_length * t) (binding_length * t + 1) x 0 (λ e. omega arith)
          go false = refl

      -- ---- the path that a goto leaves
      module _ (targets : List ℕ) (p : ℕ) (child : ChildOf d p t) (size : length targets ≡ length d.states) where
        low : parent d t < t
        low = rooted.lower t child.state child.no_root

        -- a state that is not below t is on the path only where it was
        back_below : (n s : ℕ) → s < n → s < length d.states → within d t s ≡ false → on_path d (gone_to d t targets) s ≡ true → on_path d targets s ≡ true
        back_below zero s l k outside on = absurd (nothing_below_zero l)
        back_below (suc n) s l k outside on = go (ℕ_discrete s 0) (back_below n)
          where
            go : Dec (s ≡ 0) → ((s : ℕ) → s < n → s < length d.states → within d t s ≡ false → on_path d (gone_to d t targets) s ≡ true → on_path d targets s ≡ true) → on_path d targets s ≡ true
            go (yes e) earlier = rw e (path_root d targets)
            go (no no_root) earlier =
                let up = rooted.lower s k no_root in
                let above = path_above d (gone_to d t targets) s no_root up on in
                let itself : ChildOf d (parent d s) s = record { no_root = no_root; state = k; parent_is = refl } in
                let parent-outside : within d t (parent d s) ≡ false = false_unless_true (within d t (parent d s)) (λ h. true_or_false (within d t s) (within_child d t (parent d s) s itself up h) outside) in
                at_parent up above.1 parent-outside itself (ℕ_discrete (parent d s) (parent d t)) (earlier (parent d s) (omega arith) (omega arith) parent-outside above.0)
              where
                at_parent : parent d s < s → get_or (gone_to d t targets) (parent d s) 0 ≡ s → within d t (parent d s) ≡ false → ChildOf d (parent d s) s → Dec (parent d s ≡ parent d t) → on_path d targets (parent d s) ≡ true → on_path d targets s ≡ true
                at_parent up points parent-outside itself (yes e) on' =
                    let named : get_or (gone_to d t targets) (parent d s) 0 ≡ t = rw e (gone_parent d t targets (omega arith)) in
                    let same : s ≡ t = sym points ∙ named in
                    absurd (true_or_false (within d t s) (rw same (within_self d t)) outside)
                at_parent up points parent-outside itself (no other) on' =
                    let kept = gone_other d t targets (parent d s) (omega arith) other ∙ cond_false (within d t (parent d s)) (default_target d (parent d s)) (get_or targets (parent d s) 0) parent-outside in
                    path_child d targets (parent d s) s itself up on' (sym kept ∙ points)

        path_back : (s : ℕ) → s < length d.states → within d t s ≡ false → on_path d (gone_to d t targets) s ≡ true → on_path d targets s ≡ true
        path_back s k = back_below (suc s) s (omega arith) k

        -- the states down to the parent of t stay on the path
        forth_below : (n s : ℕ) → s < n → s < length d.states → s ≤ parent d t → on_path d targets s ≡ true → on_path d (gone_to d t targets) s ≡ true
        forth_below zero s l k above on = absurd (nothing_below_zero l)
        forth_below (suc n) s l k above on = go (ℕ_discrete s 0) (forth_below n)
          where
            go : Dec (s ≡ 0) → ((s : ℕ) → s < n → s < length d.states → s ≤ parent d t → on_path d targets s ≡ true → on_path d (gone_to d t targets) s ≡ true) → on_path d (gone_to d t targets) s ≡ true
            go (yes e) earlier = rw e (path_root d (gone_to d t targets))
            go (no no_root) earlier =
                let up = rooted.lower s k no_root in
                let was = path_above d targets s no_root up on in
                let stays = gone_below d t targets (parent d s) (omega arith) low (omega arith) in
                path_child d (gone_to d t targets) (parent d s) s (record { no_root = no_root; state = k; parent_is = refl }) up (earlier (parent d s) (omega arith) (omega arith) (omega arith) was.0) (stays ∙ was.1)

        -- and t is on it
        pub path_named : on_path d targets (parent d t) ≡ true → on_path d (gone_to d t targets) t ≡ true
        path_named on =
            let up = low in
            let state = child.state in
            path_child d (gone_to d t targets) (parent d t) t (record { no_root = child.no_root; state = child.state; parent_is = refl }) low (forth_below (suc (parent d t)) (parent d t) (omega arith) (omega arith) (omega arith) on) (gone_parent d t targets (omega arith))

        -- a state below t is on the path only as a default child
        path_default : (s : ℕ) → s < length d.states → s ≢ t → within d t s ≡ true → on_path d (gone_to d t targets) s ≡ true → DefaultChild d (parent d s) s
        path_default s k other inside on =
            let no_root : s ≢ 0 = λ e. let above = within_above d t s inside in child.no_root (omega arith) in
            let up = rooted.lower s k no_root in
            let above = path_above d (gone_to d t targets) s no_root up on in
            let inside' = within_parent d t s other inside in
            let points : get_or (gone_to d t targets) (parent d s) 0 ≡ default_target d (parent d s) = gone_within d t targets (parent d s) (omega arith) low inside' in
            let is : default_target d (parent d s) ≡ s = sym points ∙ above.1 in
            record {
              child = is_child_lem d (parent d s) s (record { no_root = no_root; state = k; parent_is = refl });
              lowest = λ r h. rw is at (default_least d (parent d s) r h);
            }

        -- ---- sound bindings stay sound
        module _
            (bindings : List ℕ)
            (few : length bindings ≡ binding_length * length d.states)
            (parameters : (s : ℕ) → s < length d.states → ParametersKeep d s)
            (sound : (s : ℕ) → s < length d.states → binding_sound d targets bindings s ≡ true)
            (first : 0 < (state_at d t).parameters → Binds d (binding_length * t) x)
            (second : 1 < (state_at d t).parameters → Binds d (binding_length * t + 1) y)
          where
            abbrev after : List ℕ
            after = bound_by d t x y bindings

            bound_is : (v r : ℕ) → get_or after v 0 ≡ r → Binds d v r → bound_sound d after v ≡ true
            unfolding bound_sound
            bound_is v r e binds =
                rw e (and_both (ltb r (length d.registers) && not (is_port d r)) _ (and_both (ltb r (length d.registers)) (not (is_port d r)) (lt-ltb r (length d.registers) binds.exists) (false_not (is_port d r) binds.no_port)) binds.within)

            byte_is : (v r : ℕ) → get_or after v 0 ≡ r → Binds d v r → byte_sound d after v ≡ true
            unfolding byte_sound
            byte_is v r e binds = rw e (or_second (eqb r 0) (ltb r (length d.registers)) (lt-ltb r (length d.registers) binds.exists))

            byte_same : (v : ℕ) → get_or after v 0 ≡ get_or bindings v 0 → byte_sound d bindings v ≡ true → byte_sound d after v ≡ true
            unfolding byte_sound
            byte_same v e h = rw e h

            bound_same : (v : ℕ) → get_or after v 0 ≡ get_or bindings v 0 → bound_sound d bindings v ≡ true → bound_sound d after v ≡ true
            unfolding bound_sound
            bound_same v e h = rw e h

            -- at t itself
            at_first : Dec (0 < (state_at d t).parameters) → byte_sound d after (binding_length * t) ≡ true
            at_first (yes some) = byte_is (binding_length * t) x (first_bound_lem bindings some (let k = child.state in omega arith)) (first some)
            at_first (no none) = byte_same (binding_length * t) (first_stays bindings none) (sound_bytes targets bindings t (sound t child.state)).0

            at_second : Dec (1 < (state_at d t).parameters) → byte_sound d after (binding_length * t + 1) ≡ true
            at_second (yes two) = byte_is (binding_length * t + 1) y (second_bound_lem bindings two (let k = child.state in omega arith)) (second two)
            at_second (no none) = byte_same (binding_length * t + 1) (second_stays bindings none) (sound_bytes targets bindings t (sound t child.state)).1

            own_at : (j : ℕ) → j < (state_at d t).parameters → bound_sound d after (binding_length * t + j) ≡ true
            own_at zero l =
                let e : binding_length * t + 0 ≡ binding_length * t = omega arith in
                rw e (bound_is (binding_length * t) x (first_bound_lem bindings l (let k = child.state in omega arith)) (first l))
            own_at (suc zero) l = bound_is (binding_length * t + 1) y (second_bound_lem bindings l (let k = child.state in omega arith)) (second l)
            own_at (suc (suc j)) l = let most = (parameters t child.state).count in absurd (omega arith)

            named_sound : binding_sound d (gone_to d t targets) after t ≡ true
            named_sound =
                sound_make (gone_to d t targets) after t (at_first (dec_lt 0 (state_at d t).parameters)) (at_second (dec_lt 1 (state_at d t).parameters)) (λ on. (all_own_iff d t (bound_sound d after)).1 own_at)

            -- at another state
            other_sound : (s : ℕ) → s < length d.states → s ≢ t → binding_sound d (gone_to d t targets) after s ≡ true
            other_sound s k other =
                let bytes = sound_bytes targets bindings s (sound s k) in
                let apart : (j : ℕ) → j < 2 → get_or after (binding_length * s + j) 0 ≡ get_or bindings (binding_length * s + j) 0 = λ j l. bound_other bindings (binding_length * s + j) (λ e. other (omega arith)) (λ e. other (omega arith)) in
                let e : binding_length * s + 0 ≡ binding_length * s = omega arith in
                sound_make
                (gone_to d t targets)
                after
                s
                (byte_same (binding_length * s) (rw e at (apart 0 (omega arith))) bytes.0)
                (byte_same (binding_length * s + 1) (apart 1 (omega arith)) bytes.1)
                (λ on. go on (decide (within d t s)))
              where
                go : on_path d (gone_to d t targets) s ≡ true → (within d t s ≡ true) ⊎ (within d t s ≡ false) → all_of (bound_sound d after) (own_parameters d s) ≡ true
                go on (inl inside) =
                    let none = (parameters s k).default_none (parent d s) (path_default s k other inside on) in
                    (all_own_iff d s (bound_sound d after)).1 (λ j l. absurd (omega arith))
                go on (inr outside) =
                    let was = (all_own_iff d s (bound_sound d bindings)).0 (sound_own targets bindings s (sound s k) (path_back s k outside on)) in
                    (all_own_iff d s (bound_sound d after)).1 (λ j l.
                    let most = (parameters s k).count in
                    bound_same (binding_length * s + j) (bound_other bindings (binding_length * s + j) (λ e. other (omega arith)) (λ e. other (omega arith))) (was j l))

            pub gone_bound : (s : ℕ) → s < length d.states → binding_sound d (gone_to d t targets) after s ≡ true
            gone_bound s k = go (ℕ_discrete s t)
              where
                go : Dec (s ≡ t) → binding_sound d (gone_to d t targets) after s ≡ true
                go (yes e) = rw e named_sound
                go (no other) = other_sound s k other
