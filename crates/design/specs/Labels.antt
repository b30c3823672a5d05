-- A table of labels for the registers of a design: entry r is the label of register r.
use Rattle.std.specs.Prelude.{ℕ, ◌≤◌, ◌<◌, List, length, get_or}
use Rattle.model.specs.Image.{Design as Table}

-- every register has an entry, and it is a label of the design
pub record LabelsKept (d : Table) (labels : List ℕ) : Type 0 where
  pub enough : length d.registers ≤ length labels
  pub inside : (r : ℕ) → r < length d.registers → get_or labels r 0 < length d.rows
