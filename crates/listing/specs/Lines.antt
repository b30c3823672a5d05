-- The line of each cycle from reset, what a line shows of a cycle, and what is known where the next cycle is listed.
use Rattle.std.specs.Prelude.{ℕ, ◌+◌, ◌≡◌, List, []}
use Rattle.model.specs.Image.{Design as Table, design_of}
use Rattle.model.specs.Machine.{Cycle, reset_areas, cycle, after_cycles}
use Rattle.model.specs.Listing.{line}
use Rattle.design.specs.declared.Design.{Design}
use Rattle.design.specs.declared.image.Image.{Image}
use Rattle.machine.specs.declared.tables.Tables.{Tables}
use Rattle.machine.specs.Cycles.{Running, areas_in}

-- the line behind those of so many cycles from reset
unfoldable pub cycle_line : Table → ℕ → List ℕ
cycle_line d done = line (done + 1) (cycle d (after_cycles d done (reset_areas d)))

-- a cycle of which only the walk and the values of the registers are known
abbrev pub shown : List ℕ → List ℕ → Cycle
shown walk values = record { after = record { registers = values; targets = []; bindings = [] }; walk = walk; ran_with = [] }

-- so many cycles from reset have run
pub record RunningAt (image : List ℕ) (x : Design) (table in_scope registers targets : List ℕ) (done : ℕ) : Type 0 where
  pub areas : areas_in (design_of image) registers targets ≡ after_cycles (design_of image) done (reset_areas (design_of image))
  pub running : Running image x table in_scope registers targets

-- the same, of an `Image`
abbrev pub RunningAtWith : Image → List ℕ → List ℕ → List ℕ → List ℕ → ℕ → Type 0
RunningAtWith image table in_scope registers targets done = RunningAt image.bytes.now image.design table in_scope registers targets done

-- and with the tables of a run
abbrev pub RunningAtIn : Image → Tables → List ℕ → List ℕ → ℕ → Type 0
RunningAtIn image tables registers targets done = RunningAtWith image tables.defaults tables.scopes registers targets done
