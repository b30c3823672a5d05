-- The theorems about gate tables alone. `Promises` restates those that a reader looks for; the proved cases stand last.
pub mod Laws
pub mod Exact
pub mod Marks
pub mod Independence
pub mod Ready
pub mod Promises
pub mod Worked
pub mod Opened
pub mod Cases
pub mod Boundaries
