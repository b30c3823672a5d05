-- What the contracts of this crate cite: what a run leaves, whether areas are sound, and a run on those that are.
pub mod Stages
