-- What the contracts of the program cite.
pub mod Lengths
pub mod Pieces
pub mod Ran
