-- The theorems about journals. `Promises` restates those that a reader looks for; the proved cases stand last.
pub mod Laws
pub mod Exact
pub mod Accepted
pub mod Returning
pub mod Halves
pub mod Areas
pub mod Others
pub mod Promises
pub mod Opened
pub mod Cases
pub mod Boundaries
