-- Closed cases at the boundaries of the request's sentences.
pub mod Directories
pub mod Records
pub mod Calls
pub mod Ready
pub mod FarEnds
