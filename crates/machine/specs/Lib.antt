-- What the contracts of this crate cite: what bindings are as the code has them, what is known where a cycle runs, and what it leaves.
pub mod Bindings
pub mod Cycles
