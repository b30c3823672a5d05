-- The tree of the states that stay is the old one: their numbers keep their order and their parents stay, and with a state that stays the lowest child of its parent does, so it is
-- the lowest child as before.
use Prim.Native.Nat.{ℕ, ◌≤◌, ◌<◌}
use mathlib.Core.Path.{◌≡◌, refl, sym, ◌∙◌, ap}
use mathlib.Core.Logic.{◌↔◌, ◌≢◌}
use mathlib.Core.Bool.{true}
use native.Mathlib.Omega.{arith}
use native.Mathlib.Decide.{dec_lt, ℕ_discrete}
use lib.Dec.{eqb}
use borrow.Author.Tests.{eqb-true, eq-eqb}
use Rattle.model.specs.Image.{Design, State, state_at}
use Rattle.model.specs.Lattice.{state_label}
use Rattle.model.specs.States.{parent, is_child, has_child, default_target, sibling_or_self}
use Rattle.model.specs.Trees.{body_of}
use Rattle.model.specs.Rules.{HoldsFall, DefaultChild, DesignKeeps}
use Rattle.model.proofs.Laws.Equivalences.{same_tests}
use Rattle.model.proofs.Laws.States.{ChildOf, child_of, is_child_lem, has_child_lem, default_child, default_least}
use Rattle.renumbering.specs.Renumbering.{renumbered_state}
use Rattle.renumbering.specs.Renumbers.{Renumbers}

module _ {d d' : Design} {state command expression : ℕ → ℕ} {S C E : ℕ → Type 0} (keeps : DesignKeeps d) (new : Renumbers d d' state command expression S C E) where
  -- ---- the record of a state that stays
  pub parent_renumbered : (s : ℕ) → S s → parent d' (state s) ≡ state (parent d s)
  unfolding renumbered_state
  parent_renumbered s stays = ap (λ (x : State). x.parent) (new.state_is s stays)

  pub same_label : (s : ℕ) → S s → state_label d' (state s) ≡ state_label d s
  unfolding renumbered_state
  same_label s stays = ap (λ (x : State). x.label) (new.state_is s stays)

  pub same_count : (s : ℕ) → S s → (state_at d' (state s)).parameters ≡ (state_at d s).parameters
  unfolding renumbered_state
  same_count s stays = ap (λ (x : State). x.parameters) (new.state_is s stays)

  -- ---- the order of the numbers
  pub state_up : (s t : ℕ) → S s → S t → s ≤ t → state s ≤ state t
  state_up s t stays others l = go (ℕ_discrete s t)
    where
      go : Dec (s ≡ t) → state s ≤ state t
      go (yes e) = let same = ap state e in omega arith
      go (no e) = let above = new.states_order s t stays others (omega arith) in omega arith

  pub state_down : (s t : ℕ) → S s → S t → state s ≤ state t → s ≤ t
  state_down s t stays others l = go (dec_lt t s)
    where
      go : Dec (t < s) → s ≤ t
      go (yes b) = let above = new.states_order t s others stays b in absurd (omega arith)
      go (no b) = omega arith

  pub states_apart : (s t : ℕ) → S s → S t → state s ≡ state t → s ≡ t
  states_apart s t stays others e =
      let below = state_down s t stays others (omega arith) in
      let above = state_down t s others stays (omega arith) in
      omega arith

  pub root_is : (s : ℕ) → S s → state s ≡ 0 → s ≡ 0
  root_is s stays e = states_apart s 0 stays new.root_stays (e ∙ sym new.root_first)

  pub root_goes_lem : (s : ℕ) → s ≡ 0 → state s ≡ 0
  root_goes_lem s e = ap state e ∙ new.root_first

  same_root : (s : ℕ) → S s → eqb (state s) 0 ≡ eqb s 0
  same_root s stays = same_tests (λ h. eq-eqb s 0 (root_is s stays (eqb-true (state s) 0 h)), λ h. eq-eqb (state s) 0 (root_goes_lem s (eqb-true s 0 h)))

  -- ---- children
  pub child_renumbered : (s q : ℕ) → S s → S q → ChildOf d' (state s) (state q) ↔ ChildOf d s q
  child_renumbered s q above below = (
    λ h. record {
      no_root = λ e. h.no_root (root_goes_lem q e);
      state = new.states_old q below;
      parent_is = states_apart (parent d q) s (new.parent_stays q below) above (sym (parent_renumbered q below) ∙ h.parent_is);
    },
    λ h. record {
      no_root = λ e. h.no_root (root_is q below e);
      state = new.states_new q below;
      parent_is = parent_renumbered q below ∙ ap state h.parent_is;
    },
  )

  pub same_child : (s q : ℕ) → S s → S q → is_child d' (state s) (state q) ≡ is_child d s q
  same_child s q above below =
      let both = child_renumbered s q above below in
      same_tests (λ h. is_child_lem d s q (both.0 (child_of d' (state s) (state q) h)), λ h. is_child_lem d' (state s) (state q) (both.1 (child_of d s q h)))

  pub same_sibling : (s t : ℕ) → S s → S t → sibling_or_self d' (state s) (state t) ≡ sibling_or_self d s t
  unfolding sibling_or_self
  same_sibling s t stays named = rw (parent_renumbered s stays, same_root s stays, same_child (parent d s) t (new.parent_stays s stays) named)

  -- ---- default children
  -- the default child of a state that has one
  default_of : (s : ℕ) → has_child d s ≡ true → DefaultChild d s (default_target d s)
  default_of s h = record { child = is_child_lem d s (default_target d s) (default_child d s h); lowest = λ r child. default_least d s r child }

  -- that of a state that holds a fall stays
  default_kept : (s : ℕ) → S s → HoldsFall (body_of d s) → has_child d s ≡ true → S (default_target d s)
  default_kept s stays holds h = new.default_stays s (default_target d s) stays holds (default_of s h)

  pub child_kept : (s : ℕ) → S s → HoldsFall (body_of d s) → has_child d s ≡ true → has_child d' (state s) ≡ true
  child_kept s stays holds h =
      has_child_lem d' (state s) (state (default_target d s)) ((child_renumbered s (default_target d s) stays (default_kept s stays holds h)).1 (default_child d s h))

  pub default_renumbered : (s q : ℕ) → S s → HoldsFall (body_of d s) → DefaultChild d s q → DefaultChild d' (state s) (state q)
  default_renumbered s q stays holds child =
      let kept = new.default_stays s q stays holds child in
      record {
        child = same_child s q stays kept ∙ child.child;
        lowest = λ r' other.
            let (r, rests, is) = new.states_all r' (child_of d' (state s) r' other).state in
            let old = sym (same_child s r stays rests) ∙ rw (← is) at other in
            let up = state_up q r kept rests (child.lowest r old) in
            omega arith;
      }

  -- a default child of the new design was one, of its parent
  pub default_was : (t' s : ℕ) → S s → DefaultChild d' t' (state s) → DefaultChild d (parent d s) s
  default_was t' s stays child =
      let is = child_of d' t' (state s) child.child in
      let above = new.parent_stays s stays in
      let no_root : s ≢ 0 = λ e. is.no_root (root_goes_lem s e) in
      let own : ChildOf d (parent d s) s = record { no_root = no_root; state = new.states_old s stays; parent_is = refl } in
      let has = has_child_lem d (parent d s) s own in
      let kept = new.default_beside s (default_target d (parent d s)) stays no_root (default_of (parent d s) has) in
      let new-child = same_child (parent d s) (default_target d (parent d s)) above kept ∙ is_child_lem d (parent d s) (default_target d (parent d s)) (default_child d (parent d s) has) in
      let least = child.lowest (state (default_target d (parent d s))) (rw (sym is.parent_is ∙ parent_renumbered s stays) new-child) in
      let down = state_down s (default_target d (parent d s)) stays kept least in
      record {
        child = is_child_lem d (parent d s) s own;
        lowest = λ r other. let lower = default_least d (parent d s) r other in omega arith;
      }
