-- The theorems about lists of all calls. The proved cases stand last.
pub mod Saved
pub mod Exact
pub mod Independence
pub mod Listed
pub mod Demands
pub mod Opened
pub mod Cases
pub mod Boundaries
