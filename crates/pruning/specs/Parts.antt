-- The parts of a pruned image that its records leave: the directory, and labels and registers, which all stay.
use Rattle.std.specs.Prelude.{ℕ, ◌+◌, ◌*◌, ◌<◌, List, ◌++◌}
use Rattle.model.specs.Limits.{directory_length, label_length, register_length, state_length, node_length}
use Rattle.model.specs.Image.{Design}
use Rattle.design.specs.declared.Design.{Design as Described}
use Rattle.encoding.specs.Encoding.{records_bytes, row_bytes, register_bytes}
use Rattle.encoding.specs.Writers.{DirectoryPut}

abbrev pub kept_bytes : Design → List ℕ
kept_bytes d = records_bytes row_bytes d.rows ++ records_bytes register_bytes d.registers

-- sections whose lengths fit their fields
pub record Near (x : Described) : Type 0 where
  pub offsets : directory_length + label_length * x.labels + register_length * x.registers + state_length * x.states + node_length * x.commands < 65536
  pub last : node_length * x.expressions < 65536

-- the directory with the lengths of sections of so many records
abbrev pub ResultPut : Described → List ℕ → List ℕ → Type 0
ResultPut x before after =
    DirectoryPut (label_length * x.labels) (register_length * x.registers) (state_length * x.states) (node_length * x.commands) (node_length * x.expressions) before after
