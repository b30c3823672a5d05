-- What the passes of the checker establish of the records: each keeps its rule.
use Rattle.std.specs.Prelude.{ℕ, ◌<◌, ◌≡◌, true, List, length}
use Rattle.model.specs.Image.{Design as Table, design_of}
use Rattle.model.specs.States.{register_kept, state_kept}
use Rattle.model.specs.Kinds.{command_kept, expression_kept}
use Rattle.model.specs.Parameters.{parameters_kept}
use Rattle.model.specs.Rules.{IsLattice, StructureKeeps}
use Rattle.design.specs.declared.Design.{Design}
use Rattle.design.specs.Describes.{Describes}

pub record LatticeKept (d : Table) : Type 0 where
  pub lattice : IsLattice d.rows

pub record RegistersKept (d : Table) : Type 0 where
  pub kept : (r : ℕ) → r < length d.registers → register_kept d r ≡ true

pub record StatesKept (d : Table) : Type 0 where
  pub kept : (s : ℕ) → s < length d.states → state_kept d s ≡ true

pub record CommandsKept (d : Table) : Type 0 where
  pub kept : (n : ℕ) → n < length d.commands → command_kept d n ≡ true

pub record ExpressionsKept (d : Table) : Type 0 where
  pub kept : (n : ℕ) → n < length d.expressions → expression_kept d n ≡ true

-- refusal 19 found no state
pub record ParametersKept (d : Table) : Type 0 where
  pub kept : (s : ℕ) → s < length d.states → parameters_kept d s ≡ true

-- what the passes up to refusal 5 have established: all that the flow pass and the machine need of the records
pub record RecordsKept (image : List ℕ) (x : Design) : Type 0 where
  pub describes : Describes image x
  pub lattice : LatticeKept (design_of image)
  pub registers : RegistersKept (design_of image)
  pub states : StatesKept (design_of image)
  pub commands : CommandsKept (design_of image)
  pub expressions : ExpressionsKept (design_of image)

-- and what all passes up to the flow have: the structure is judged too
pub record Structured (image : List ℕ) (x : Design) : Type 0 where
  pub records : RecordsKept image x
  pub structure : StructureKeeps (design_of image)
