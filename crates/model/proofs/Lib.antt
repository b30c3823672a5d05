-- The theorems about the meaning alone. `Promises` restates those that a reader looks for; what the cases are written with stands last, the cases themselves in crate `model_cases`.
pub mod Laws
pub mod Exact
pub mod Refused
pub mod Independence
pub mod Grouping
pub mod Writing
pub mod Ports
pub mod Widths
pub mod Signed
pub mod Raising
pub mod Promises
pub mod RaisingPromises
pub mod Designs
pub mod Opened
