-- What holds of pruning.
pub mod Closing
pub mod Reached
pub mod Numbered
pub mod Nodes
pub mod Renumbers
pub mod Whole
pub mod Twice
pub mod Images
pub mod Exact
pub mod Written
pub mod Promises
pub mod Opened
pub mod Boundaries
pub mod Dropped
