-- Laws of the definitions, one file for each group.
pub mod Tables
pub mod Kinds
pub mod Areas
pub mod Wires
pub mod Calls
