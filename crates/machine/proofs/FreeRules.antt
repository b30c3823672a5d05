-- Where no state has a parameter and every byte of the bindings is 0, each state's bindings are sound: 0 is sound, and there are no parameters to bind.
use Rattle.std.specs.Prelude.{None}
use Prim.Native.Nat.{ℕ, ◌+◌, ◌*◌, ◌<◌}
use mathlib.Core.Path.{◌≡◌, refl, sym, ◌∙◌, ap}
use mathlib.Core.Bool.{Bool, true, false, ◌&&◌}
use mathlib.Core.List.{List}
use native.Mathlib.Omega.{arith}
use lib.Dec.{eqb}
use lib.ListN.{length, get_or}
use lib.Seq.{get_or-drop}
use borrow.Author.Tests.{eqb-true}
use Rattle.model.specs.Indices.{tabulate_from, all_below, lowest_failing}
use Rattle.model.specs.Image.{Design as Table, State, design_of, state_at}
use Rattle.model.specs.Lattice.{implies}
use Rattle.model.specs.Parameters.{all_of, own_parameters}
use Rattle.model.specs.Bindings.{on_path, byte_sound, binding_sound}
use Rattle.model.specs.Calls.{targets_in, bindings_in}
use Rattle.model.proofs.Laws.Booleans.{and_first, and_second}
use Rattle.model.proofs.Laws.Indices.{all_at, failing_nowhere}
use Rattle.design.specs.declared.Design.{Design}
use Rattle.design.specs.Records.{state_in}
use Rattle.design.specs.Describes.{Describes}
use Rattle.design.proofs.Laws.{states_count, state_in_lem}
use Rattle.machine.specs.Bindings.{is_free}

-- ---- a state as the code tests it
module _ {image : List ℕ} {x : Design} (d : Describes image x) where
  behind_targets : (area : List ℕ) (v : ℕ) {r : ℕ} → r ≡ get_or area (x.states + v) 0 → r ≡ get_or (bindings_in (design_of image) area) v 0
  behind_targets area v e = rw (← (states_count d)) (e ∙ sym (get_or-drop x.states area v 0))

  pub free_rule :
      {s m a b : ℕ} (area : List ℕ)
      → s < x.states
      → m ≡ (state_in image x.states_at s).parameters
      → a ≡ get_or area (x.states + 2 * s) 0
      → b ≡ get_or area (x.states + 2 * s + 1) 0
      → (eqb m 0 && (eqb a 0 && eqb b 0)) ≡ is_free (design_of image) area s
  unfolding is_free
  free_rule {s} area l m a b =
      let after : x.states + 2 * s + 1 ≡ x.states + (2 * s + 1) = omega arith in
      rw (m ∙ ap (λ (y : State). y.parameters) (state_in_lem d l), behind_targets area (2 * s) a, behind_targets area (2 * s + 1) (b ∙ ap (λ (k : ℕ). get_or area k 0) after))

-- ---- a state that is free is sound
module _ (d : Table) (area : List ℕ) (s : ℕ) (free : is_free d area s ≡ true) where
  abbrev first : ℕ
  first = get_or (bindings_in d area) (2 * s) 0

  abbrev second : ℕ
  second = get_or (bindings_in d area) (2 * s + 1) 0

  tests : (eqb (state_at d s).parameters 0 && (eqb first 0 && eqb second 0)) ≡ true
  unfolding is_free
  tests = free

  bytes : (eqb first 0 && eqb second 0) ≡ true
  bytes = and_second (eqb (state_at d s).parameters 0) (eqb first 0 && eqb second 0) tests

  none_own : (state_at d s).parameters ≡ 0
  none_own = eqb-true (state_at d s).parameters 0 (and_first (eqb (state_at d s).parameters 0) (eqb first 0 && eqb second 0) tests)

  first_zero : first ≡ 0
  first_zero = eqb-true first 0 (and_first (eqb first 0) (eqb second 0) bytes)

  second_zero : second ≡ 0
  second_zero = eqb-true second 0 (and_second (eqb first 0) (eqb second 0) bytes)

  free_sound : binding_sound d (targets_in d area) (bindings_in d area) s ≡ true
  unfolding binding_sound byte_sound own_parameters tabulate_from all_of
  free_sound = rw (first_zero, second_zero, none_own) (anyway (on_path d (targets_in d area) s))
    where
      anyway : (on : Bool) → implies on true ≡ true
      anyway true = refl
      anyway false = refl

pub free_nowhere : (d : Table) (area : List ℕ) {b : Bool} → b ≡ all_below (is_free d area) (length d.states) → b ≡ true
    → None ≡ lowest_failing (binding_sound d (targets_in d area) (bindings_in d area)) (length d.states)
free_nowhere d area e h =
    let n = length d.states in
    sym (failing_nowhere (binding_sound d (targets_in d area) (bindings_in d area)) n (λ s l. free_sound d area s (all_at (is_free d area) n (sym e ∙ h) s l)))
