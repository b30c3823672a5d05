-- What the contracts of the exported functions cite.
pub mod Told
pub mod ToldFiling
pub mod Versions
