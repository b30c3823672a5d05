-- What the contracts of this crate cite: the tables that the loops over the nodes fill.
pub mod Tables
