-- When a `Design` by value describes an image: the directory keeps its rules, and the design has its counts and offsets.
use Rattle.std.specs.Prelude.{ℕ, ◌≡◌, List}
use Rattle.design.specs.declared.Design.{Design}
use Rattle.model.specs.Image.{Labels, Registers, States, Commands, Expressions, offset, count}
use Rattle.model.specs.Rules.{DirectoryKeeps}

pub record Describes (image : List ℕ) (design : Design) : Type 0 where
  pub directory : DirectoryKeeps image
  pub labels : design.labels ≡ count image Labels
  pub registers : design.registers ≡ count image Registers
  pub states : design.states ≡ count image States
  pub commands : design.commands ≡ count image Commands
  pub expressions : design.expressions ≡ count image Expressions
  pub registers_at : design.registers_at ≡ offset image Registers
  pub states_at : design.states_at ≡ offset image States
  pub commands_at : design.commands_at ≡ offset image Commands
  pub expressions_at : design.expressions_at ≡ offset image Expressions
