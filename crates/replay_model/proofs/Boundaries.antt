-- Cases at the boundaries of 02's E10: each holds one number, limit or order in place, from both sides.
pub mod Cycles
pub mod Ports
pub mod Superseded
pub mod Seen
pub mod FarEnds
