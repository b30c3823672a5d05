-- What the contracts of this crate cite: the tables of a filing, how orders are filled, and the fields and bytes of a filed record.
pub mod Tables
pub mod Ordering
pub mod Fields
