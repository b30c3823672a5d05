-- What the contracts of this crate cite: what is known once the tables are filled, and the call of `Rattle.pruning_model.specs.Calls` from the point where the image is accepted on.
pub mod Tables
pub mod Parts
pub mod Stages
