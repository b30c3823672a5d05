-- What holds of designs under new numbers.
pub mod Parts
pub mod InTrees
pub mod Kept
pub mod Trees
pub mod Unnumbered
pub mod States
pub mod Scopes
pub mod Labels
pub mod Bodies
pub mod Uses
pub mod Nodes
pub mod Keeps
pub mod Fitting
pub mod Running
