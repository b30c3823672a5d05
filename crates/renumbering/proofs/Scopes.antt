-- What is in scope of a state that stays is what was, each parameter moved with its state: parents stay, and a parameter's number tells its state and its place there. So bounds
-- and choices are the old ones.
use Prim.Native.Nat.{ℕ, zero, suc, ◌+◌, ◌*◌, ◌/◌, ◌%◌, ◌≤◌, ◌<◌}
use mathlib.Core.Path.{◌≡◌, refl, sym, ◌∙◌, ap, ap₂}
use mathlib.Core.Bool.{Bool, cond}
use mathlib.Core.List.{List, [], ◌∷◌, ◌++◌, map, map-append}
use native.Mathlib.Omega.{arith}
use native.Mathlib.Decide.{ℕ_discrete}
use lib.ListN.{length, length-map}
use Rattle.model.specs.Limits.{binding_length}
use Rattle.model.specs.Indices.{tabulate_from, join_below}
use Rattle.model.specs.Image.{Design, state_at}
use Rattle.model.specs.States.{parent}
use Rattle.model.specs.Parameters.{all_of, own_parameters, scope_of, within_bounds, choices, every_choice}
use Rattle.model.specs.Rules.{IsChoice, none_chosen, one_more, DesignKeeps}
use Rattle.model.proofs.Laws.Choices.{within_iff}
use Rattle.model.proofs.Laws.Indices.{join_same}
use Rattle.model.proofs.Laws.Scopes.{scope_root, scope_step, parameter_state, parameter_place}
use Rattle.renumbering.specs.Renumbering.{renumbered_state}
use Rattle.renumbering.specs.Renumbers.{Renumbers}
use Rattle.renumbering.proofs.States.{parent_renumbered, same_count}

-- the number of a parameter, moved with its state
unfoldable pub moved : (ℕ → ℕ) → ℕ → ℕ
moved state v = binding_length * state (v / binding_length) + v % binding_length

-- the states of some parameters stay
abbrev pub TheirStatesStay : (ℕ → Type 0) → List ℕ → Type 0
TheirStatesStay S [] = Unit {0}
TheirStatesStay S (v ∷ scope) = S (v / binding_length) × TheirStatesStay S scope

stay_append : (S : ℕ → Type 0) (xs ys : List ℕ) → TheirStatesStay S xs → TheirStatesStay S ys → TheirStatesStay S (xs ++ ys)
stay_append S [] ys h k = k
stay_append S (x ∷ xs) ys h k = (h.0, stay_append S xs ys h.1 k)

first_state : (s : ℕ) → binding_length * s / binding_length ≡ s
first_state s = omega arith

second_state : (s : ℕ) → suc (binding_length * s) / binding_length ≡ s
second_state s = omega arith

module _ (state : ℕ → ℕ) where
  pub moved_own : (s j : ℕ) → j < binding_length → moved state (binding_length * s + j) ≡ binding_length * state s + j
  unfolding moved
  moved_own s j l = rw (parameter_state s j l, parameter_place s j l)

  moved_first : (s : ℕ) → moved state (binding_length * s) ≡ binding_length * state s
  unfolding moved
  moved_first s = rw (first_state s) (omega arith)

  moved_second : (s : ℕ) → moved state (suc (binding_length * s)) ≡ suc (binding_length * state s)
  unfolding moved
  moved_second s = rw (second_state s) (omega arith)

  moved_state : (v : ℕ) → moved state v / binding_length ≡ state (v / binding_length)
  unfolding moved
  moved_state v = parameter_state (state (v / binding_length)) (v % binding_length) (omega arith)

  moved_place : (v : ℕ) → moved state v % binding_length ≡ v % binding_length
  unfolding moved
  moved_place v = parameter_place (state (v / binding_length)) (v % binding_length) (omega arith)

  -- the own parameters of a state, of which there are at most two
  own_moved : (s p : ℕ) → p ≤ binding_length → tabulate_from (λ v. v) (binding_length * state s) p ≡ map (moved state) (tabulate_from (λ v. v) (binding_length * s) p)
  unfolding tabulate_from
  own_moved s zero l = refl
  own_moved s (suc zero) l = rw (moved_first s)
  own_moved s (suc (suc zero)) l = rw (moved_first s, moved_second s)
  own_moved s (suc (suc (suc p))) l = absurd (omega arith)

own_stay : (S : ℕ → Type 0) (s p : ℕ) → p ≤ binding_length → S s → TheirStatesStay S (tabulate_from (λ v. v) (binding_length * s) p)
unfolding tabulate_from
own_stay S s zero l stays = tt
own_stay S s (suc zero) l stays = (rw (first_state s) stays, tt)
own_stay S s (suc (suc zero)) l stays = (rw (first_state s) stays, (rw (second_state s) stays, tt))
own_stay S s (suc (suc (suc p))) l stays = absurd (omega arith)

module _ {d d' : Design} {state command expression : ℕ → ℕ} {S C E : ℕ → Type 0} (keeps : DesignKeeps d) (new : Renumbers d d' state command expression S C E) where
  -- ---- scopes
  own_renumbered : (s : ℕ) → S s → own_parameters d' (state s) ≡ map (moved state) (own_parameters d s)
  unfolding own_parameters
  own_renumbered s stays = rw (same_count keeps new s stays) (own_moved state s (state_at d s).parameters (keeps.structure.parameters s (new.states_old s stays)).count)

  own_stays : (s : ℕ) → S s → TheirStatesStay S (own_parameters d s)
  unfolding own_parameters
  own_stays s stays = own_stay S s (state_at d s).parameters (keeps.structure.parameters s (new.states_old s stays)).count stays

  scope_below : (f s : ℕ) → s < f → S s → (scope_of d' (state s) ≡ map (moved state) (scope_of d s)) × TheirStatesStay S (scope_of d s)
  scope_below zero s l stays = absurd (omega arith)
  scope_below (suc f) s l stays = go (ℕ_discrete s 0) (λ (p : ℕ) (m : p < s) (above : S p). scope_below f p (omega arith) above)
    where
      go : Dec (s ≡ 0) → ((p : ℕ) → p < s → S p → (scope_of d' (state p) ≡ map (moved state) (scope_of d p)) × TheirStatesStay S (scope_of d p)) → (scope_of d' (state s) ≡ map (moved state) (scope_of d s)) × TheirStatesStay S (scope_of d s)
      go (yes e) below =
          let root : state 0 ≡ 0 = new.root_first in
          let own : own_parameters d' 0 ≡ map (moved state) (own_parameters d 0) = rw root at (own_renumbered 0 new.root_stays) in
          rw e (rw root (scope_root d' ∙ own ∙ sym (ap (map (moved state)) (scope_root d))), rw (scope_root d) (own_stays 0 new.root_stays))
      go (no e) below =
          let lower : parent d s < s = (keeps.structure.states s (new.states_old s stays)).parent_below e in
          let above = new.parent_stays s stays in
          let (same, stay) = below (parent d s) lower above in
          let is = parent_renumbered keeps new s stays in
          let up = new.states_order (parent d s) s above stays lower in (
            scope_step d' (state s) (omega arith)
                ∙ ap₂ (λ (xs ys : List ℕ). xs ++ ys) (ap (scope_of d') is ∙ same) (own_renumbered s stays)
                ∙ sym (map-append (moved state) (scope_of d (parent d s)) (own_parameters d s))
                ∙ sym (ap (map (moved state)) (scope_step d s lower)),
            rw (scope_step d s lower) (stay_append S (scope_of d (parent d s)) (own_parameters d s) stay (own_stays s stays)),
          )

  pub scope_renumbered : (s : ℕ) → S s → scope_of d' (state s) ≡ map (moved state) (scope_of d s)
  scope_renumbered s stays = (scope_below (suc s) s (omega arith) stays).0

  pub scope_stays : (s : ℕ) → S s → TheirStatesStay S (scope_of d s)
  scope_stays s stays = (scope_below (suc s) s (omega arith) stays).1

  pub same_scope_length : (s : ℕ) → S s → length (scope_of d' (state s)) ≡ length (scope_of d s)
  same_scope_length s stays = ap length (scope_renumbered s stays) ∙ length-map (scope_of d s) (moved state)

  -- ---- bounds and choices
  pub same_within : (v label : ℕ) → S (v / binding_length) → within_bounds d' (moved state v) label ≡ within_bounds d v label
  unfolding within_bounds renumbered_state
  same_within v label stays = rw (new.rows, moved_state state v, moved_place state v, new.state_is (v / binding_length) stays)

  choice_was : (scope choice : List ℕ) → TheirStatesStay S scope → IsChoice d' (map (moved state) scope) choice → IsChoice d scope choice
  choice_was [] [] stay none_chosen = none_chosen
  choice_was [] (label ∷ choice) stay c = elim c [ ]
  choice_was (v ∷ scope) [] stay c = elim c [ ]
  choice_was (v ∷ scope) (label ∷ choice) stay (one_more l within more) =
      one_more (rw new.rows at l) ((within_iff d).0 (sym (same_within v label stay.0) ∙ (within_iff d').1 within)) (choice_was scope choice stay.1 more)

  -- a choice of the new design was one
  pub choice_renumbered : (s : ℕ) (choice : List ℕ) → S s → IsChoice d' (scope_of d' (state s)) choice → IsChoice d (scope_of d s) choice
  choice_renumbered s choice stays h = choice_was (scope_of d s) choice (scope_stays s stays) (rw (scope_renumbered s stays) at h)

  same_choices : (scope : List ℕ) → TheirStatesStay S scope → choices d' (map (moved state) scope) ≡ choices d scope
  unfolding choices
  same_choices [] stay = refl
  same_choices (v ∷ scope) stay =
      ap (join_below _) (ap length new.rows)
      ∙ join_same
      (λ label. cond (within_bounds d' (moved state v) label) (map (λ choice. label ∷ choice) (choices d' (map (moved state) scope))) [])
      (λ label. cond (within_bounds d v label) (map (λ choice. label ∷ choice) (choices d scope)) [])
      (length d.rows)
      (λ label l. rw (same_within v label stay.0, same_choices scope stay.1))

  pub same_every : (s : ℕ) (test : List ℕ → Bool) → S s → every_choice d' (state s) test ≡ every_choice d s test
  unfolding every_choice
  same_every s test stays = ap (all_of test) (ap (choices d') (scope_renumbered s stays) ∙ same_choices (scope_of d s) (scope_stays s stays))
