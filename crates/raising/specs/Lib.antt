-- What the contracts of this crate cite beside the meaning: labels as a table that passes raise, and the call from the point where the structure is accepted on.
pub mod Passes
pub mod Stages
