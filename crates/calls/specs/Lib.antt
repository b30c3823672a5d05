-- What the contracts of this crate cite: what a call leaves, and what it leaves once the image is accepted.
pub mod Stages
