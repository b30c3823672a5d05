-- What the contracts of this crate cite beside crate `gates_model`: a record by the place of its section, when a `Gates` describes a table, what a
-- `GateTable` holds, what is known while signals are computed, and what a call leaves.
pub mod Records
pub mod Describes
pub mod Tables
pub mod Codes
pub mod Stages
