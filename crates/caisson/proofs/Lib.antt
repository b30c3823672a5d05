-- The contracts of the exported functions, what follows for a host, and the page of promises.
pub mod Answered
pub mod Contracts
pub mod OutContracts
pub mod FileContracts
pub mod GateContracts
pub mod Calls
pub mod Hosts
pub mod Raising
pub mod Journals
pub mod Replays
pub mod Widths
pub mod Alike
pub mod Pruning
pub mod Filing
pub mod Gates
pub mod Promises
pub mod Versions
