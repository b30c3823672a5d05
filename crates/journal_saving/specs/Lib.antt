-- What the contracts of this crate cite beside crate `journal_model`.
pub mod Bytes
pub mod Saving
