-- The theorems about replays. `Promises` restates those that a reader looks for; the proved cases stand last.
pub mod Laws
pub mod Superseded
pub mod Applied
pub mod Exact
pub mod Accepted
pub mod Divided
pub mod ByHand
pub mod Areas
pub mod Latest
pub mod Promises
pub mod Opened
pub mod Cases
pub mod Boundaries
