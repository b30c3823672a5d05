-- The proved cases of document 01, and those that hold its sentences in place.
pub mod Cases
pub mod Boundaries
