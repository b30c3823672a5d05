-- Two runs of one table that agree stay so.
pub mod Wires
pub mod Runs
