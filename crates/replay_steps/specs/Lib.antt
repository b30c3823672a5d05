-- What the contracts of a replay cite beside crate `replay_model`.
pub mod Preparing
pub mod Judging
pub mod Replaying
