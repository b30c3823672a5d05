-- What the records' rules give of parameters: few are in scope of a state, their bounds are labels, and label bytes stand for a label or for one of them.
use Prim.Native.Nat.{ℕ, zero, suc, ◌+◌, ◌*◌, ◌-◌, ◌≤◌, ◌<◌}
use mathlib.Core.Path.{◌≡◌, refl, ◌∙◌, ap}
use mathlib.Core.Logic.{◌⊎◌, inl, inr, ⊎_elim}
use mathlib.Core.List.{List}
use native.Mathlib.Omega.{arith}
use native.Mathlib.Decide.{dec_lt}
use lib.ListN.{length, get_or}
use borrow.Author.Tests.{lt-ltb, le-ltb}
use Rattle.model.specs.Limits.{parameters_max, parameter_register, parameter_label, binding_length}
use Rattle.model.specs.Image.{Design as Table, design_of, state_at}
use Rattle.model.specs.Lattice.{state_label}
use Rattle.model.specs.States.{parent}
use Rattle.model.specs.Parameters.{scope_of, label_byte, lower_bound, upper_bound}
use Rattle.model.specs.Rules.{ParameterLabel, PairKeeps}
use Rattle.model.proofs.Laws.Scopes.{own_length, scope_root, scope_length_lem, scope_inherited, scope_own}
use Rattle.model.proofs.Laws.Bounds.{BoundsKept, bounds_kept}
use Rattle.model.proofs.Laws.Bounds.{LabelByte as Byte}
use Rattle.model.proofs.Exact.Records.{register_iff, state_iff}
use Rattle.model.proofs.Exact.Parameters.{parameters_iff}
use Rattle.design.specs.declared.Design.{Design}
use Rattle.design.specs.Describes.{Describes}
use Rattle.design.specs.Kept.{LatticeKept, RegistersKept, StatesKept, ParametersKept}
use Rattle.design.specs.Scopes.{LabelByte, ScopesShort}
use Rattle.design.proofs.Laws.{labels_count, states_count, labels_most}
use Rattle.design.proofs.ResetRules.{parent_lower}

-- ---- scopes
pub scopes_short : {d : Table} → ParametersKept d → ScopesShort d
scopes_short {d} kept = record { short = λ s l. ((parameters_iff d s).0 (kept.kept s l)).scope }

module _ {d : Table} (states : StatesKept d) where
  -- the number of a parameter in scope is that of a state's own one
  parameters_below :
      ((q : ℕ) → q < length d.states → (state_at d q).parameters ≤ parameters_max)
      → (n s : ℕ) → s < n → s < length d.states → (i : ℕ) → i < length (scope_of d s) → (state_at d 0).parameters ≡ 0 → get_or (scope_of d s) i 0 < binding_length * length d.states
  parameters_below few zero s l state i inside none = absurd (omega arith)
  parameters_below few (suc n) zero l state i inside none = let own : i < (state_at d 0).parameters = rw (scope_root d, own_length d 0) at inside in absurd (omega arith)
  parameters_below few (suc n) (suc s) l state i inside none =
      let lower : parent d (suc s) < suc s = parent_lower d states (suc s) state (λ e. omega arith) in
      by lower (parameters_below few n (parent d (suc s)) (omega arith) (omega arith)) (dec_lt i (length (scope_of d (parent d (suc s)))))
    where
      by : parent d (suc s) < suc s
          → ((i : ℕ) → i < length (scope_of d (parent d (suc s))) → (state_at d 0).parameters ≡ 0 → get_or (scope_of d (parent d (suc s))) i 0 < binding_length * length d.states)
          → Dec (i < length (scope_of d (parent d (suc s))))
          → get_or (scope_of d (suc s)) i 0 < binding_length * length d.states
      by lower above (yes k) = rw (scope_inherited d (suc s) i lower k) (above i k none)
      by lower above (no k) =
          let most = few (suc s) state in
          let all = scope_length_lem d (suc s) lower in
          let place : i ≡ length (scope_of d (parent d (suc s))) + (i - length (scope_of d (parent d (suc s)))) = omega (arith, k) in
          let below : i - length (scope_of d (parent d (suc s))) < (state_at d (suc s)).parameters = omega (arith, k, all) in
          let number : get_or (scope_of d (suc s)) i 0 ≡ binding_length * suc s + (i - length (scope_of d (parent d (suc s)))) = ap (λ (k : ℕ). get_or (scope_of d (suc s)) k 0) place ∙ scope_own d (suc s) _ lower below in
          rw number (small (i - length (scope_of d (parent d (suc s)))) below most)
        where
          small : (j : ℕ) → j < (state_at d (suc s)).parameters → (state_at d (suc s)).parameters ≤ 2 → 2 * suc s + j < 2 * length d.states
          small j b m = omega arith

  module _ (parameters : ParametersKept d) where
    pub parameter_number : {s : ℕ} (i : ℕ) → s < length d.states → i < length (scope_of d s) → get_or (scope_of d s) i 0 < binding_length * length d.states
    parameter_number {s} i l inside =
        parameters_below
        (λ q b. ((parameters_iff d q).0 (parameters.kept q b)).count)
        (suc s)
        s
        (omega arith)
        l
        i
        inside
        (((parameters_iff d 0).0 (parameters.kept 0 (omega arith))).root_none refl)

    -- ---- label bytes
    pub state_label_byte : (s : ℕ) → s < length d.states → LabelByte d s (state_label d s)
    state_label_byte s l = record { is = ⊎_elim (λ (h : state_label d s < length d.rows). inl h) (λ (h : ParameterLabel (state_label d s)). inr (h.at_least, scoped h ((parameters_iff d s).0 (parameters.kept s l)).label)) ((state_iff d s).0 (states.kept s l)).label }
      where
        scoped : ParameterLabel (state_label d s) → (state_label d s < parameter_label) ⊎ (state_label d s - parameter_label < length (scope_of d s)) → state_label d s - parameter_label < length (scope_of d s)
        scoped h (inl low) = let least = h.at_least in absurd (omega arith)
        scoped h (inr inside) = inside

  -- what stands for a label in a state does so in its children
  pub child_label_byte : {s b : ℕ} → s < length d.states → (s ≡ 0 → ⊥) → LabelByte d (parent d s) b → LabelByte d s b
  child_label_byte {s} {b} l n byte = record { is = go byte.is }
    where
      go : (b < length d.rows) ⊎ ((parameter_label ≤ b) × (b - parameter_label < length (scope_of d (parent d s)))) → (b < length d.rows) ⊎ ((parameter_label ≤ b) × (b - parameter_label < length (scope_of d s)))
      go (inl h) = inl h
      go (inr (least, inside)) = let all = scope_length_lem d s (parent_lower d states s l n) in inr (least, omega arith)

-- the label byte of a register, and of a parameter in scope
module _ {d : Table} (s : ℕ) {r : ℕ} where
  pub register_label_byte : RegistersKept d → r < parameter_register → r < length d.registers → LabelByte d s (label_byte d r)
  unfolding label_byte
  register_label_byte kept low l = record { is = inl (rw (lt-ltb r parameter_register low) ((register_iff d r).0 (kept.kept r l)).label) }

  pub parameter_label_byte : parameter_register ≤ r → r - parameter_register < length (scope_of d s) → LabelByte d s (label_byte d r)
  unfolding label_byte
  parameter_label_byte high inside =
      let at_least : 16 ≤ 16 + (r - 64) = omega arith in
      let below : 16 + (r - 64) - 16 < length (scope_of d s) = omega arith in
      record { is = inr (rw (le-ltb r parameter_register high) at_least, rw (le-ltb r parameter_register high) below) }

-- a label of the design
pub plain_label_byte : {d : Table} {s b : ℕ} → b < length d.rows → LabelByte d s b
plain_label_byte l = record { is = inl l }

-- as the laws of bounds have it
pub byte_of : {d : Table} {s b : ℕ} → LabelByte d s b → Byte d s b
byte_of byte = record { is = byte.is }

-- ---- bounds
module _ {image : List ℕ} {x : Design} (d : Describes image x) where
  pub labels_few : length (design_of image).rows ≤ parameter_label
  labels_few = let count = labels_count d in let most = labels_most d in omega arith

  module _ {s : ℕ} (lattice : LatticeKept (design_of image)) (states : StatesKept (design_of image)) (parameters : ParametersKept (design_of image)) (l : s < x.states) where
    -- the bounds in scope of a state are labels, and lower flows to upper
    pub bounds_of : BoundsKept (design_of image) s
    bounds_of =
        let count = states_count d in
        bounds_kept
        (design_of image)
        lattice.lattice
        labels_few
        (λ q b. (state_iff (design_of image) q).0 (states.kept q b))
        (λ q b. (parameters_iff (design_of image) q).0 (parameters.kept q b))
        (omega arith)

    pub pair_in_scope : (i : ℕ) → i < length (scope_of (design_of image) s) → PairKeeps (design_of image) (lower_bound (design_of image) (get_or (scope_of (design_of image) s) i 0)) (upper_bound (design_of image) (get_or (scope_of (design_of image) s) i 0))
    pair_in_scope i inside = bounds_of.bounds i inside
