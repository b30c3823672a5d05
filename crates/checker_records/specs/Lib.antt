-- What the contracts of this crate cite: rows as masks, the tests of two labels, by name, the labels that a label byte stands for, and what the pass over
-- parameters tells.
pub mod LabelTests
pub mod Bounds
pub mod ParameterTests
