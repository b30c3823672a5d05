-- Two designs that have the same in common at a level are alike there: a state that the level sees under some bindings is none of the excepted ones, since its label
-- is then its fixed one, or it has none.
use Prim.Native.Nat.{ℕ, ◌<◌}
use mathlib.Core.Path.{◌≡◌, refl, sym, ◌∙◌, ap}
use mathlib.Core.Logic.{◌⊎◌, inl, inr}
use mathlib.Core.Bool.{true, false}
use mathlib.Core.List.{List, [], ◌∷◌, map}
use lib.Dec.{ltb}
use lib.ListN.{length, get_or, length-map, get_or-map}
use Rattle.model.specs.Limits.{parameter_label}
use Rattle.model.specs.Image.{Design, State, state_at, no_state}
use Rattle.model.specs.Lattice.{flows_to, state_label}
use Rattle.model.specs.Parameters.{label_under}
use Rattle.model.specs.Bindings.{label_with}
use Rattle.model.specs.Trees.{Cmd, body_of}
use Rattle.model.specs.Parties.{state_seen}
use Rattle.model.specs.Neighbours.{unnumbered, without_command, is_excepted, common_body, Common, common}
use Rattle.model.proofs.Laws.Booleans.{decide, cond_true, cond_false}
use Rattle.model.proofs.Laws.Indices.{get_d_tabulate}
use Rattle.model.proofs.Independence.Cycle.{Alike}

-- a state that is seen is not excepted
seen_common : (d : Design) (level : ℕ) (bindings : List ℕ) (s : ℕ) → state_seen d level bindings s ≡ true → is_excepted d level s ≡ false
unfolding is_excepted label_with label_under
seen_common d level bindings s seen = go (decide (ltb (state_label d s) parameter_label))
  where
    go : (ltb (state_label d s) parameter_label ≡ true) ⊎ (ltb (state_label d s) parameter_label ≡ false) → is_excepted d level s ≡ false
    go (inl fixed) =
        let label : label_with d bindings s ≡ state_label d s = cond_true (ltb (state_label d s) parameter_label) _ _ fixed in
        let flows : flows_to d.rows (state_label d s) level ≡ true = rw label at seen in
        rw (fixed, flows) refl
    go (inr none) = rw none refl

only_entry : (x y : Cmd) → x ∷ [] ≡ y ∷ [] → x ≡ y
only_entry x y e = cc

module _ (d₁ d₂ : Design) (level : ℕ) (same : common d₁ level ≡ common d₂ level) where
  common_rows : d₁.rows ≡ d₂.rows
  unfolding common
  common_rows = ap (λ (c : Common). c.rows) same

  common_registers : d₁.registers ≡ d₂.registers
  unfolding common
  common_registers = ap (λ (c : Common). c.registers) same

  common_states : map without_command d₁.states ≡ map without_command d₂.states
  unfolding common
  common_states = ap (λ (c : Common). c.states) same

  common_count : length d₁.states ≡ length d₂.states
  common_count = sym (length-map d₁.states without_command) ∙ ap length common_states ∙ length-map d₂.states without_command

  common_record : (s : ℕ) → without_command (state_at d₁ s) ≡ without_command (state_at d₂ s)
  common_record s =
      sym (get_or-map without_command d₁.states s no_state)
      ∙ ap (λ (states : List State). get_or states s no_state) common_states
      ∙ get_or-map without_command d₂.states s no_state

  common_label : (s : ℕ) → state_label d₁ s ≡ state_label d₂ s
  common_label s = ap (λ (x : State). x.label) (common_record s)

  common_excepted : (s : ℕ) → is_excepted d₁ level s ≡ is_excepted d₂ level s
  unfolding is_excepted
  common_excepted s = rw (common_label s, common_rows) refl

  common_body_lem : (s : ℕ) → s < length d₁.states → common_body d₁ level s ≡ common_body d₂ level s
  unfolding common
  common_body_lem s l =
      sym (get_d_tabulate (common_body d₁ level) (length d₁.states) s [] l)
      ∙ ap (λ (c : Common). get_or c.bodies s []) same
      ∙ get_d_tabulate (common_body d₂ level) (length d₂.states) s [] (rw common_count at l)

  common_seen : (bindings : List ℕ) (s : ℕ) → s < length d₁.states → state_seen d₁ level bindings s ≡ true → unnumbered (body_of d₁ s) ≡ unnumbered (body_of d₂ s)
  unfolding common_body
  common_seen bindings s l seen =
      let not-excepted = seen_common d₁ level bindings s seen in
      only_entry (unnumbered (body_of d₁ s)) (unnumbered (body_of d₂ s)) (
      sym (cond_false (is_excepted d₁ level s) [] (unnumbered (body_of d₁ s) ∷ []) not-excepted)
      ∙ common_body_lem s l
      ∙ cond_false (is_excepted d₂ level s) [] (unnumbered (body_of d₂ s) ∷ []) (sym (common_excepted s) ∙ not-excepted))

  pub common_alike : Alike d₁ d₂ level
  common_alike = record { rows = common_rows; registers = common_registers; states = common_count; records = common_record; bodies = common_seen }
