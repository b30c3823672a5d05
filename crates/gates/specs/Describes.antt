-- When a `Gates` by value describes a table: the directory keeps its rules, and the value has its counts and offsets.
use Rattle.std.specs.Prelude.{ℕ, ◌≡◌, List}
use Rattle.gates.specs.declared.Gates.{Gates}
use Rattle.gates_model.specs.Tables.{Inputs, FlipFlops, Gates as GateSection, offset, count}
use Rattle.gates_model.specs.Rules.{DirectoryKeeps}

pub record Describes (table : List ℕ) (x : Gates) : Type 0 where
  pub directory : DirectoryKeeps table
  pub inputs : x.inputs ≡ count table Inputs
  pub flipflops : x.flipflops ≡ count table FlipFlops
  pub gates : x.gates ≡ count table GateSection
  pub flipflops_at : x.flipflops_at ≡ offset table FlipFlops
  pub gates_at : x.gates_at ≡ offset table GateSection
