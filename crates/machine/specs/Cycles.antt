-- What is known where a cycle runs, and what a cycle leaves.
use Rattle.std.specs.Prelude.{ℕ, ◌*◌, ◌<◌, ◌≡◌, true, List, ◌++◌, length, get_or, drop}
use Rattle.model.specs.declared.Ending.TheVariants.{Goto}
use Rattle.model.specs.declared.Outcome.{Outcome}
use Rattle.model.specs.declared.Outcome.TheVariants.{Transferred}
use Rattle.model.specs.Limits.{word_length, target_length}
use Rattle.model.specs.Image.{Design as Table, design_of}
use Rattle.model.specs.Rules.{Keeps}
use Rattle.model.specs.Values.{modulus}
use Rattle.model.specs.Parameters.{all_of, scope_of}
use Rattle.model.specs.Bindings.{bound_sound, binding_sound}
use Rattle.model.specs.Machine.{Areas, Cycle, target_sound}
use Rattle.model.specs.Calls.{targets_in, bindings_in}
use Rattle.design.specs.declared.Design.{Design}
use Rattle.design.specs.declared.image.Image.{Image}
use Rattle.design.specs.Resets.{Defaults}
use Rattle.design.specs.Scopes.{Scopes}
use Rattle.design.specs.Kept.{RecordsKept}
use Rattle.machine_commands.specs.Executions.{values_in}
use Rattle.machine.specs.declared.tables.Tables.{Tables}
use Rattle.machine.specs.Bindings.{ArgumentsFit}

-- the image keeps the rules, tables have the default targets and the parameters in scope, the areas have their lengths, and values, targets and bindings are sound
pub record Running (image : List ℕ) (x : Design) (table in_scope registers targets : List ℕ) : Type 0 where
  pub known : RecordsKept image x
  pub keeps : Keeps image
  pub defaults : Defaults (design_of image) table
  pub scopes : Scopes (design_of image) in_scope
  pub area : length registers ≡ word_length * x.registers
  pub states : length targets ≡ target_length * x.states
  pub fitting : (r : ℕ) → get_or (values_in (design_of image) registers) r 0 < modulus (design_of image).registers r
  pub sound : (s : ℕ) → s < length (design_of image).states → target_sound (design_of image) (targets_in (design_of image) targets) s ≡ true
  pub bound : (s : ℕ) → s < length (design_of image).states → binding_sound (design_of image) (targets_in (design_of image) targets) (bindings_in (design_of image) targets) s ≡ true

-- the same where the body of state s runs: every parameter in its scope is soundly bound
pub record Entered (image : List ℕ) (x : Design) (in_scope registers targets : List ℕ) (s : ℕ) : Type 0 where
  pub known : RecordsKept image x
  pub keeps : Keeps image
  pub scopes : Scopes (design_of image) in_scope
  pub area : length registers ≡ word_length * x.registers
  pub states : length targets ≡ target_length * x.states
  pub state : s < x.states
  pub bound : all_of (bound_sound (design_of image) (bindings_in (design_of image) targets)) (scope_of (design_of image) s) ≡ true

-- how a body ends: a goto names a state, and binds registers to its parameters
pub record Ends (image : List ℕ) (x : Design) (o : Outcome) : Type 0 where
  pub state : (t a b : ℕ) → o ≡ Transferred (Goto t a b) → t < x.states
  pub arguments : (t a b : ℕ) → o ≡ Transferred (Goto t a b) → ArgumentsFit image x t a b

-- ---- the same, of an `Image`
-- the tables are those of the image
abbrev pub TablesIn : Image → Tables → Type 0
TablesIn image tables = Defaults (design_of image.bytes.now) tables.defaults × Scopes (design_of image.bytes.now) tables.scopes

abbrev pub RunningWith : Image → List ℕ → List ℕ → List ℕ → List ℕ → Type 0
RunningWith image table in_scope registers targets = Running image.bytes.now image.design table in_scope registers targets

abbrev pub RunningIn : Image → Tables → List ℕ → List ℕ → Type 0
RunningIn image tables registers targets = RunningWith image tables.defaults tables.scopes registers targets

abbrev pub EnteredIn : Image → List ℕ → List ℕ → List ℕ → ℕ → Type 0
EnteredIn image in_scope registers targets s = Entered image.bytes.now image.design in_scope registers targets s

abbrev pub EndsIn : Image → Outcome → Type 0
EndsIn image o = Ends image.bytes.now image.design o

-- the values of both areas
abbrev pub areas_in : Table → List ℕ → List ℕ → Areas
areas_in d registers area = record { registers = values_in d registers; targets = targets_in d area; bindings = bindings_in d area }

-- a table with a list written over its front
abbrev pub overwritten : List ℕ → List ℕ → List ℕ
overwritten front old = front ++ drop (length front) old

-- a cycle as the code leaves it: the areas, the walk written over the front of a table, and its length
pub record Cycled (c : Cycle) (areas : Areas) (before table : List ℕ) (n : ℕ) : Type 0 where
  pub after : areas ≡ c.after
  pub walk : table ≡ overwritten c.walk before
  pub count : n ≡ length c.walk
