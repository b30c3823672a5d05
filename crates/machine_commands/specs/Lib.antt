-- What the contracts of this crate cite: what is known where an expression is evaluated or a command runs, and what it leaves.
pub mod Executions
