-- What holds of the areas in every run from reset, and what the list of calls needs to know of a relation between two runs.
-- `Lists.antt` carries any such relation through whole lists of calls; `Runs.antt` gives the one that holds.
use Prim.Native.Nat.{ℕ, ◌*◌, ◌<◌}
use mathlib.Core.Path.{◌≡◌}
use mathlib.Core.Bool.{true, false}
use lib.ListN.{length, get_or, set}
use Rattle.model.specs.Limits.{binding_length}
use Rattle.model.specs.Image.{Design}
use Rattle.model.specs.Values.{modulus}
use Rattle.model.specs.Bindings.{binding_sound}
use Rattle.model.specs.Machine.{Areas, reset_areas, target_sound, cycle}
use Rattle.model.specs.Parties.{register_seen, values_seen, walk_seen, wider_walk_seen, given_unseen}

-- areas that an accepted run may have: the right lengths, values within the widths, sound targets and bindings
pub record Good (d : Design) (areas : Areas) : Type 0 where
  pub registers_length : length areas.registers ≡ length d.registers
  pub targets_length : length areas.targets ≡ length d.states
  pub fitting : (r : ℕ) → get_or areas.registers r 0 < modulus d.registers r
  pub sound : (s : ℕ) → s < length d.states → target_sound d areas.targets s ≡ true
  pub bindings_length : length areas.bindings ≡ binding_length * length d.states
  pub bound : (s : ℕ) → s < length d.states → binding_sound d areas.targets areas.bindings s ≡ true

-- the areas with a value in a register
abbrev pub with_register : ℕ → ℕ → Areas → Areas
with_register r v areas = record { registers = set areas.registers r v; targets = areas.targets; bindings = areas.bindings }

-- the areas after reset, with any values in the registers that are not seen
abbrev pub start_areas : Design → ℕ → (ℕ → ℕ) → Areas
start_areas d level given =
    record { registers = given_unseen d level given (reset_areas d).registers; targets = (reset_areas d).targets; bindings = (reset_areas d).bindings }

-- A relation between the areas of two runs, one of each of two designs, that no step of a list of calls can break, and that shows the level the same.
pub record Bisimulation (d₁ d₂ : Design) (level : ℕ) (Related : Areas → Areas → Type 0) : Type 0 where
  pub good : (a b : Areas) → Related a b → Good d₁ a
  pub values : (a b : Areas) → Related a b → values_seen d₁ level a.registers ≡ values_seen d₂ level b.registers
  pub starts :
      (given₁ given₂ : ℕ → ℕ)
      → ((r : ℕ) → r < length d₁.registers → given₁ r < modulus d₁.registers r)
      → ((r : ℕ) → r < length d₂.registers → given₂ r < modulus d₂.registers r)
      → Related (start_areas d₁ level given₁) (start_areas d₂ level given₂)
  pub resets : Related (reset_areas d₁) (reset_areas d₂)
  pub cycles : (a b : Areas) → Related a b → Related (cycle d₁ a).after (cycle d₂ b).after
  pub walks : (a b : Areas) → Related a b → walk_seen d₁ level (cycle d₁ a).ran_with (cycle d₁ a).walk ≡ walk_seen d₂ level (cycle d₂ b).ran_with (cycle d₂ b).walk
  pub wider_walks : (a b : Areas) → Related a b → wider_walk_seen d₁ level (cycle d₁ a).ran_with (cycle d₁ a).walk ≡ wider_walk_seen d₂ level (cycle d₂ b).ran_with (cycle d₂ b).walk
  pub writes_seen : (a b : Areas) → Related a b → (r v : ℕ) → v < modulus d₁.registers r → Related (with_register r v a) (with_register r v b)
  pub writes_unseen : (a b : Areas) → Related a b → (r v : ℕ) → v < modulus d₁.registers r → register_seen d₁ level r ≡ false → Related (with_register r v a) b
