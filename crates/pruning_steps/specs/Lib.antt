-- What the contracts of this crate cite: the tables of marks and of new numbers that the steps of pruning fill, and how they fill them.
pub mod Marks
pub mod Reaching
pub mod Staying
