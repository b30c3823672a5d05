-- What the contracts of bindings cite: what a goto may bind and what it leaves, the registers bound in one number, and what is known where bindings are judged.
use Rattle.std.specs.Prelude.{ℕ, ◌+◌, ◌*◌, ◌/◌, ◌%◌, ◌<◌, ◌≡◌, Bool, true, ◌&&◌, not, cond, List, ltb, eqb, length, get_or}
use Rattle.model.specs.Limits.{binding_length}
use Rattle.model.specs.Image.{Design as Table, design_of, state_at}
use Rattle.model.specs.Lattice.{register_label}
use Rattle.model.specs.States.{is_port}
use Rattle.model.specs.Parameters.{within_bounds}
use Rattle.model.specs.Bindings.{bound_by}
use Rattle.model.specs.Machine.{target_sound, gone_to}
use Rattle.model.specs.Calls.{targets_in, bindings_in}
use Rattle.design.specs.declared.Design.{Design}
use Rattle.design.specs.declared.image.Image.{Image}
use Rattle.design.specs.Scopes.{scope_length}

-- the arguments that a goto to t binds are registers
pub record ArgumentsFit (image : List ℕ) (x : Design) (t a b : ℕ) : Type 0 where
  pub first : 0 < (state_at (design_of image) t).parameters → a < x.registers
  pub second : 1 < (state_at (design_of image) t).parameters → b < x.registers

abbrev pub ArgumentsFitIn : Image → ℕ → ℕ → ℕ → Type 0
ArgumentsFitIn image t a b = ArgumentsFit image.bytes.now image.design t a b

-- the area of the targets as a goto to t binds its arguments, and as it goes to t
pub record Bound (d : Table) (t a b : ℕ) (before after : List ℕ) : Type 0 where
  pub targets : targets_in d after ≡ targets_in d before
  pub bindings : bindings_in d after ≡ bound_by d t a b (bindings_in d before)
  pub long : length after ≡ length before

pub record Pointed (d : Table) (t : ℕ) (before after : List ℕ) : Type 0 where
  pub targets : targets_in d after ≡ gone_to d t (targets_in d before)
  pub bindings : bindings_in d after ≡ bindings_in d before
  pub long : length after ≡ length before

-- the whole of a goto
pub record Gone (d : Table) (t a b : ℕ) (before after : List ℕ) : Type 0 where
  pub targets : targets_in d after ≡ gone_to d t (targets_in d before)
  pub bindings : bindings_in d after ≡ bound_by d t a b (bindings_in d before)
  pub long : length after ≡ length before

-- the bytes bound to the first two parameters in scope of state s, by the table of scopes; 0 where there is none
abbrev pub first_bound : List ℕ → ℕ → List ℕ → ℕ → ℕ
first_bound scopes states area s = cond (ltb 0 (get_or scopes (scope_length * s) 0)) (get_or area (states + get_or scopes (scope_length * s + 1) 0) 0) 0

abbrev pub second_bound : List ℕ → ℕ → List ℕ → ℕ → ℕ
second_bound scopes states area s = cond (ltb 1 (get_or scopes (scope_length * s) 0)) (get_or area (states + get_or scopes (scope_length * s + 2) 0) 0) 0

-- they stand in the area
pub record Packable (scopes : List ℕ) (states : ℕ) (area : List ℕ) (s : ℕ) : Type 0 where
  pub entry : scope_length * s + 2 < length scopes
  pub first : states + get_or scopes (scope_length * s + 1) 0 < length area
  pub second : states + get_or scopes (scope_length * s + 2) 0 < length area

-- and are packed in one number
pub record Packed (scopes : List ℕ) (states : ℕ) (area : List ℕ) (s packed : ℕ) : Type 0 where
  pub first : packed % 256 ≡ first_bound scopes states area s
  pub second : packed / 256 ≡ second_bound scopes states area s

-- state s has no parameter, and both its bytes are 0
unfoldable pub is_free : Table → List ℕ → ℕ → Bool
is_free d area s =
    eqb (state_at d s).parameters 0
    && (eqb (get_or (bindings_in d area) (binding_length * s) 0) 0 && eqb (get_or (bindings_in d area) (binding_length * s + 1) 0) 0)

-- every target is sound
pub record TargetsSound (d : Table) (area : List ℕ) : Type 0 where
  pub sound : (s : ℕ) → s < length d.states → target_sound d (targets_in d area) s ≡ true

-- register r may be bound to parameter v
unfoldable pub may_bind : Table → ℕ → ℕ → Bool
may_bind d v r = ltb r (length d.registers) && not (is_port d r) && within_bounds d v (register_label d r)
