-- What the contracts of this crate cite: text written to a buffer, and the line of a cycle.
pub mod Texts
pub mod Lines
