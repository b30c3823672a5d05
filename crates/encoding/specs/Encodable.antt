-- The designs that an image can say: as many records as the limits of a design table allow, and fields that fit their bytes.
use Rattle.std.specs.Prelude.{ℕ, ◌≤◌, ◌<◌, ◌^◌, length, get_or}
use Rattle.model.specs.Limits.{labels_min, labels_max, registers_max, states_min, states_max, commands_max, expressions_max}
use Rattle.model.specs.Image.{Register, State, Node, Design, register_at, state_at, command_at, expression_at}

-- counts within the table's limits
pub record WithinLimits (d : Design) : Type 0 where
  pub labels_least : labels_min ≤ length d.rows
  pub labels_most : length d.rows ≤ labels_max
  pub registers_most : length d.registers ≤ registers_max
  pub states_least : states_min ≤ length d.states
  pub states_most : length d.states ≤ states_max
  pub commands_most : length d.commands ≤ commands_max
  pub expressions_most : length d.expressions ≤ expressions_max

-- each field fits its bytes
abbrev pub RowFits : ℕ → Type 0
RowFits row = row < 65536

pub record RegisterFits (x : Register) : Type 0 where
  pub label : x.label < 256
  pub kind : x.kind < 256
  pub reset : x.reset < 2 ^ 32
  pub width : x.width < 256

pub record StateFits (x : State) : Type 0 where
  pub parent : x.parent < 256
  pub label : x.label < 256
  pub command : x.command < 65536
  pub parameters : x.parameters < 256
  pub first_lower : x.first_lower < 256
  pub first_upper : x.first_upper < 256
  pub second_lower : x.second_lower < 256
  pub second_upper : x.second_upper < 256

pub record NodeFits (x : Node) : Type 0 where
  pub kind : x.kind < 256
  pub item : x.item < 256
  pub a : x.a < 65536
  pub b : x.b < 65536
  pub c : x.c < 65536

-- every record of a design fits
pub record Encodable (d : Design) : Type 0 where
  pub rows : (i : ℕ) → i < length d.rows → RowFits (get_or d.rows i 0)
  pub registers : (i : ℕ) → i < length d.registers → RegisterFits (register_at d i)
  pub states : (i : ℕ) → i < length d.states → StateFits (state_at d i)
  pub commands : (i : ℕ) → i < length d.commands → NodeFits (command_at d i)
  pub expressions : (i : ℕ) → i < length d.expressions → NodeFits (expression_at d i)
