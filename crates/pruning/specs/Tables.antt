-- The tables of a pruning, and the directory of its result.
use Rattle.std.specs.Prelude.{ℕ, ◌+◌, ◌*◌, ◌≡◌, length}
use Rattle.model.specs.Limits.{state_length, node_length}
use Rattle.model.specs.Image.{Design}
use Rattle.design.specs.declared.Design.{Design as Described}
use Rattle.design.specs.declared.image.Image.{Image}
use Rattle.design.specs.Images.{design_in}
use Rattle.encoding.specs.Encoding.{states_at, commands_at, expressions_at}
use Rattle.pruning_model.specs.Reached.{reached}
use Rattle.pruning_model.specs.Pruned.{command_stays, expression_stays, pruned}
use Rattle.pruning_steps.specs.Marks.{Marked, Numbered}
use Rattle.pruning.specs.declared.tables.Tables.{Tables}

module _ (d : Design) (x : Described) where
  -- which states are reached, and which nodes stay
  pub record AllMarked (marks : Tables ℕ) : Type 0 where
    pub states_marked : Marked (reached d) x.states marks.states
    pub commands_marked : Marked (command_stays d) x.commands marks.commands
    pub expressions_marked : Marked (expression_stays d) x.expressions marks.expressions

  -- their new numbers
  pub record AllNumbered (numbers : Tables ℕ) : Type 0 where
    pub states_numbered : Numbered (reached d) x.states numbers.states
    pub commands_numbered : Numbered (command_stays d) x.commands numbers.commands
    pub expressions_numbered : Numbered (expression_stays d) x.expressions numbers.expressions

abbrev pub AllMarkedIn : Image → Tables ℕ → Type 0
AllMarkedIn image marks = AllMarked (design_in image) image.design marks

abbrev pub AllNumberedIn : Image → Tables ℕ → Type 0
AllNumberedIn image numbers = AllNumbered (design_in image) image.design numbers

-- so many states, commands and expressions instead of those of a design
pub record Resized (x : Described) (states commands expressions : ℕ) (result : Described) : Type 0 where
  pub labels : result.labels ≡ x.labels
  pub registers : result.registers ≡ x.registers
  pub states_left : result.states ≡ states
  pub commands_left : result.commands ≡ commands
  pub expressions_left : result.expressions ≡ expressions
  pub states_at : result.states_at ≡ x.states_at
  pub commands_at : result.commands_at ≡ x.states_at + state_length * states
  pub expressions_at : result.expressions_at ≡ x.states_at + state_length * states + node_length * commands

-- the counts and offsets of the pruned design
pub record Result (d : Design) (result : Described) : Type 0 where
  pub labels_counted : result.labels ≡ length d.rows
  pub registers_counted : result.registers ≡ length d.registers
  pub states_counted : result.states ≡ length (pruned d).states
  pub commands_counted : result.commands ≡ length (pruned d).commands
  pub expressions_counted : result.expressions ≡ length (pruned d).expressions
  pub states_placed : result.states_at ≡ states_at (pruned d)
  pub commands_placed : result.commands_at ≡ commands_at (pruned d)
  pub expressions_placed : result.expressions_at ≡ expressions_at (pruned d)
